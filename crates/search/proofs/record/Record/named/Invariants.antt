use Rattle.std.proofs.Common.{◌≡◌, ℕ, ◌<◌, get_or}
use Rattle.search.specs.Answers.{entry}
use Rattle.search.proofs.record.Record.named.Given as goal

abbrev pub invariant-loop-k : goal.invariant-loop-k
invariant-loop-k l = (j : ℕ) → j < l.k → get_or l.number-items j 0 ≡ entry l.self.grants.now l.route j
