use Rattle.std.proofs.Common.{◌≡◌, ◌≤◌, cond, IfOk, None, Result, sym, ap, ◌∙◌, subst}
use Rattle.faults.specs.declared.Fault.{Fault}
use Rattle.search.specs.declared.named.Named.{Named}
use Rattle.std.specs.Option.{ok_or}
use Rattle.std.proofs.lemmas.Bool.{cond-true}
use Rattle.states.specs.Reports.{state_of}
use Rattle.chains.specs.Laws.{recorded}
use Rattle.chains.specs.Search.{least_chain}
use Rattle.search.specs.Answers.{named}
use Rattle.search.specs.Records.{is_record}
use Rattle.plain.specs.Record.{passed, draw_before}
use Rattle.ledger.specs.Ledgers.{owner_in, chain_on_record}
use Rattle.ledger.proofs.Passing.{visit_passed, visit_refused, is_record_lem, named_short}
use Rattle.ledger.proofs.held.Ledger.chain_for.Goals as goal

pub returns : goal.returns
returns g c =
    let says = g.L.Language.says c.args.language.now in
    let l = c.args.self.now in
    let h = c.args.hook in
    let p = c.args.caller in
    let report = c.args.report.now in
    let s = state_of p None report in
    let o = chain_on_record (g.L.Language.size c.args.language.now) says l p h report in
    let found : c.chain_for.result ≡ named o =
    c.chain_for.ensures.is
    ∙ (λ i. cond (is_record (c.rows.ensures i)) (named (least_chain says recorded (c.rows.ensures i) h (c.owner-owner.ensures i) p (c.state.ensures i))) None)
    ∙ cond-true _ _ None (is_record_lem l.grants) in
    let is =
    visit_passed (draw_before p h (owner_in l h) s) _ o c.ok_or.result (c.in_ok-check_visit.ensures ∙ ap (λ k. passed (draw_before p h k s)) c.owner-owner.ensures)
    (c.ok_or.ensures.value ∙ (λ i. ok_or (found i) (c.at.ensures i))) in
    record { is = is; short = subst (λ (r : Result Named Fault). IfOk r (λ (n : Named). n.length ≤ 8)) (sym is) (named_short (g.L.Language.size c.args.language.now) says l p h report) }

pub returns-in_err-check_visit : goal.returns-in_err-check_visit
returns-in_err-check_visit g c =
    let l = c.args.self.now in
    let s = state_of c.args.caller None c.args.report.now in
    let is =
    visit_refused (draw_before c.args.caller c.args.hook (owner_in l c.args.hook) s) _ _ c.from_residual.result _ c.from_residual.ensures.1
    (c.in_err-check_visit.ensures ∙ ap (λ k. passed (draw_before c.args.caller c.args.hook k s)) c.owner-owner.ensures) in
    record { is = is; short = subst (λ (r : Result Named Fault). IfOk r (λ (n : Named). n.length ≤ 8)) (sym is) (named_short (g.L.Language.size c.args.language.now) (g.L.Language.says c.args.language.now) l c.args.caller c.args.hook c.args.report.now) }
