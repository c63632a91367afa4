use Rattle.std.proofs.Common.{Some, None, sym, ◌∙◌}
use Rattle.std.proofs.lemmas.Bool.{both_ways}
use Rattle.chains.specs.Search.{is_person}
use Rattle.chains.proofs.Sound.{decides_person}
use Rattle.search.proofs.Found.{drawn_answered, none_for}
use Rattle.search.proofs.record.Record.chain_for.Goals as goal

pub returns-then-not-is_person : goal.returns-then-not-is_person
returns-then-not-is_person g c =
    none_for (g.L.Language.says c.args.language.now) c.args.self.now.grants.now c.args.draw.now.hook c.args.draw.now.owner c.args.draw.now.person c.args.draw.now.state
    (λ person. both_ways (is_person c.args.draw.now.owner) (sym c.is_person.ensures ∙ c.if-not-is_person.true) ((decides_person c.args.draw.now.owner).1 person))

pub returns-in-Some : goal.returns-in-Some
returns-in-Some g c =
    let x =
    drawn_answered (g.L.Language.says c.args.language.now) c.args.self.now.grants.now c.plan-plan.result.links c.passing-allowed.result c.args.draw.now.hook c.args.draw.now.owner c.args.draw.now.person
    c.args.draw.now.state c.plan-plan.ensures c.passing-allowed.ensures (sym c.is_person.ensures ∙ c.if-not-is_person.false) c.args.self.now.is (Some c.in-Some.route) c.in-Some.ensures in
    (x.0, x.1, c.named.ensures ∙ x.2)

pub returns-in-None : goal.returns-in-None
returns-in-None g c =
    drawn_answered (g.L.Language.says c.args.language.now) c.args.self.now.grants.now c.plan-plan.result.links c.passing-allowed.result c.args.draw.now.hook c.args.draw.now.owner c.args.draw.now.person
    c.args.draw.now.state c.plan-plan.ensures c.passing-allowed.ensures (sym c.is_person.ensures ∙ c.if-not-is_person.false) c.args.self.now.is None c.in-None.ensures
