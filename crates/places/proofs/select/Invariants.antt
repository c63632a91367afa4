use Rattle.std.proofs.Common.{get_or}
use Rattle.std.specs.Fn.{FnReturnsAt}
use Rattle.places.proofs.Members.{Chosen}
use Rattle.places.proofs.select.Given as goal

abbrev pub invariant-loop-i : goal.invariant-loop-i
invariant-loop-i g l = Chosen (λ k b. (d : _) → FnReturnsAt g.F.Fn l.test (get_or l.items k d) b) l.set l.i
