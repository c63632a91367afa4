use Rattle.std.proofs.Common.{◌≡◌, true, List, sym, ◌∙◌, subst}
use Rattle.std.proofs.lemmas.Bool.{cond-true}
use Rattle.grants.specs.declared.Grant.{Grant}
use Rattle.search.specs.Records.{is_record}
use Rattle.search.specs.Answers.{Answered}
use Rattle.search.proofs.Places.{record_rises}
use Rattle.search.proofs.Found.{answered_is}
use Rattle.search.proofs.search.chain_for.Goals as goal

pub returns-in-Some-clause-is : goal.returns-in-Some-clause-is
returns-in-Some-clause-is g c =
    let m = g.L.Language.says c.args.language.now in
    let r = c.args.grants.now in
    let d = c.args.draw.now in
    let yes : is_record r ≡ true = subst (λ (x : List Grant). is_record x ≡ true) c.in-Some.ensures c.in-Some.record.is in
    let got : Answered m r d.hook d.owner d.person d.state c.chain_for.result =
    subst (λ (x : List Grant). Answered m x d.hook d.owner d.person d.state c.chain_for.result) c.in-Some.ensures c.chain_for.ensures in
    answered_is m r (record_rises r yes) d.hook d.owner d.person d.state c.chain_for.result got ∙ sym (cond-true (is_record r) _ _ yes)
