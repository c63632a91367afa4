use Rattle.std.proofs.Common.{◌≡◌, ◌%◌, false, cond, eqb, length, drop}
use Rattle.commands.specs.Steps.{rising}
use Rattle.commands.proofs.Entries.{climbing}
use Rattle.commands.proofs.values.is_state.Given as goal

abbrev pub invariant-loop-v : goal.invariant-loop-v
invariant-loop-v l = cond (climbing l.last (drop l.v-index l.entries)) (eqb (length l.value % 3) 0) false ≡ rising 1 l.value
