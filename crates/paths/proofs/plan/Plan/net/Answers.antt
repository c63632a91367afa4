use Rattle.paths.proofs.Nears.{ready_from}
use Rattle.paths.proofs.plan.Plan.net.Goals as goal

pub invariant_of-result : goal.invariant_of-result
invariant_of-result c = record {
  ready = ready_from c.args.self.now c.args.target c.to-last.result c.args.base c.layers.result c.layers.ensures c.to-last.ensures;
}
