use Rattle.std.proofs.Common.{[], ◌∷◌, is_some, unwrap_or, sym, ap, ◌∙◌}
use Rattle.grants.specs.Blank.{blank}
use Rattle.plain.specs.Record.{passed, own_grant, numbers_left, chainless}
use Rattle.plain.proofs.Checked.{passed_on}
use Rattle.ledger.specs.Ledgers.{stands_in}
use Rattle.ledger.proofs.Passing.{terms, amend_person, amend_terms, amend_grant, amend_numbers}
use Rattle.ledger.proofs.held.Ledger.check_amend.Goals as goal

pub returns : goal.returns
returns g c =
    let size = g.L.Language.size c.args.language.now in
    let l = c.args.self.now in
    let k = c.args.grant.now in
    let report = c.args.report.now in
    c.check_chain.ensures
    ∙ ap (λ b. passed (chainless b ∷ [])) c.justifies.ensures
    ∙ sym (amend_numbers size k.grantor c.args.number k.execute k.onward report l.last (is_some c.args.old) (unwrap_or c.args.old blank).grantor (stands_in size (g.L.Language.says c.args.language.now) l k) _
    c.in_ok-check_person.ensures.is
    (c.in_ok-check_terms.ensures ∙ ap (λ n. passed (terms n k.grantor k.execute k.onward report)) c.count.ensures)
    c.in_ok-check_grantor.ensures
    c.in_ok-check_numbers.ensures)

pub returns-in_err-check_terms : goal.returns-in_err-check_terms
returns-in_err-check_terms g c =
    let size = g.L.Language.size c.args.language.now in
    let l = c.args.self.now in
    let k = c.args.grant.now in
    let report = c.args.report.now in
    passed_on c.from_residual-in_err-check_terms.result _ c.from_residual-in_err-check_terms.ensures.1 (terms size k.grantor k.execute k.onward report) _
    (c.in_err-check_terms.ensures ∙ ap (λ n. passed (terms n k.grantor k.execute k.onward report)) c.count.ensures)
    ∙ sym (amend_person size k.grantor c.args.number k.execute k.onward report l.last (is_some c.args.old) (unwrap_or c.args.old blank).grantor (stands_in size (g.L.Language.says c.args.language.now) l k) _
    c.in_ok-check_person.ensures.is)

pub returns-in_err-check_grantor : goal.returns-in_err-check_grantor
returns-in_err-check_grantor g c =
    let size = g.L.Language.size c.args.language.now in
    let l = c.args.self.now in
    let k = c.args.grant.now in
    let report = c.args.report.now in
    passed_on c.from_residual-in_err-check_grantor.result _ c.from_residual-in_err-check_grantor.ensures.1 (own_grant (is_some c.args.old) (unwrap_or c.args.old blank).grantor k.grantor c.args.number) _
    c.in_err-check_grantor.ensures
    ∙ sym (amend_terms size k.grantor c.args.number k.execute k.onward report l.last (is_some c.args.old) (unwrap_or c.args.old blank).grantor (stands_in size (g.L.Language.says c.args.language.now) l k) _
    c.in_ok-check_person.ensures.is
    (c.in_ok-check_terms.ensures ∙ ap (λ n. passed (terms n k.grantor k.execute k.onward report)) c.count.ensures))

pub returns-in_err-check_numbers : goal.returns-in_err-check_numbers
returns-in_err-check_numbers g c =
    let size = g.L.Language.size c.args.language.now in
    let l = c.args.self.now in
    let k = c.args.grant.now in
    let report = c.args.report.now in
    passed_on c.from_residual-in_err-check_numbers.result _ c.from_residual-in_err-check_numbers.ensures.1 (numbers_left l.last ∷ []) _
    c.in_err-check_numbers.ensures
    ∙ sym (amend_grant size k.grantor c.args.number k.execute k.onward report l.last (is_some c.args.old) (unwrap_or c.args.old blank).grantor (stands_in size (g.L.Language.says c.args.language.now) l k) _
    c.in_ok-check_person.ensures.is
    (c.in_ok-check_terms.ensures ∙ ap (λ n. passed (terms n k.grantor k.execute k.onward report)) c.count.ensures)
    c.in_ok-check_grantor.ensures)
