use Rattle.paths.specs.Memories.{Layers}
use Rattle.paths.proofs.plan.Plan.layers.Given as goal

abbrev pub invariant-loop-k : goal.invariant-loop-k
invariant-loop-k l = Layers l.self.steps l.last l.base l.k l.near
