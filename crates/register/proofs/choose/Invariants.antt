use Rattle.register.proofs.Chosen.{Choosing}
use Rattle.register.proofs.choose.Given as goal

abbrev pub invariant-loop-i : goal.invariant-loop-i
invariant-loop-i l = Choosing l.places l.initial.rows l.rows l.next l.i
