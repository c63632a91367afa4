use Rattle.chains.specs.declared.chain.Which.TheVariants.{Onward}
use Rattle.search.proofs.Found.{fits, stands_is}
use Rattle.search.proofs.record.Record.stands.Goals as goal

pub returns : goal.returns
returns g c =
    let m = g.L.Language.says c.args.language.now in
    let r = c.args.self.now.grants.now in
    let q = c.args.grant.now in
    let l = c.plan-plan.result.links in
    let a = c.passing-allowed.result in
    let plan = c.plan-plan.ensures in
    let fit = fits m r l plan.0 a a q.hook c.args.owner Onward q.state plan.2 plan.1 c.passing-allowed.ensures (λ i lt h. h) in
    stands_is m r l a (λ _. c.args.owner) q fit c.is_reached.result c.is_reached.ensures
