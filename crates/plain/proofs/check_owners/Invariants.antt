use Rattle.std.proofs.Common.{◌≡◌}
use Rattle.plain.proofs.Fitted.{owning}
use Rattle.plain.proofs.check_owners.Given as goal

abbrev pub invariant-loop-i : goal.invariant-loop-i
invariant-loop-i l = owning l.i l.owners ≡ owning 0 l.owners
