use Rattle.std.proofs.Common.{ℕ, ◌<◌, List, length}
use Rattle.paths.specs.Steps.{Steps}
use Rattle.paths.proofs.walk.shortest.Given as goal

abbrev pub invariant-loop-k : goal.invariant-loop-k
invariant-loop-k l = (q : List ℕ) → length q < l.k → Steps l.net.plan.now l.net.target l.search.allowed l.search.person q → ⊥
