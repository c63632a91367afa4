use Rattle.std.proofs.Common.{min, subst}
use lib.Bits.{bit_and, bit_xor}
use Rattle.paths.specs.Steps.{Shortest}
use Rattle.paths.proofs.Chains.{best_from}
use Rattle.paths.proofs.plan.Plan.best.Goals as goal

pub returns : goal.returns
returns c =
    let n = c.args.self.now in
    let t = c.args.target in
    let o = c.args.owner in
    let r = c.shortest.result in
    let start = bit_xor c.args.allowed (bit_and c.args.allowed c.to.result) in
    let short : Shortest n t start o (min c.args.most 8) r =
    subst (λ m. Shortest n t start o m r) c.limit.ensures
    (subst (λ a. Shortest n t a o c.limit.result r) c.without-start.ensures.is
    (subst (λ q. Shortest n q c.without-start.result o c.limit.result r) c.net-net.ensures.target
    (subst (λ m. Shortest m c.net-net.result.target c.without-start.result o c.limit.result r) c.net-net.ensures.plan c.shortest.ensures))) in
    best_from n t o c.args.allowed c.to.result c.to.ensures (min c.args.most 8) r short
