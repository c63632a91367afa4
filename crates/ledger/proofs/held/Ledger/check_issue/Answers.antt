use Rattle.std.proofs.Common.{[], ◌∷◌, length, sym, ap, ◌∙◌}
use Rattle.register.specs.Held.{held}
use Rattle.plain.specs.Record.{passed, chainless}
use Rattle.plain.proofs.Checked.{passed_on}
use Rattle.ledger.specs.Ledgers.{owner_in, stands_in}
use Rattle.ledger.proofs.Passing.{parties, terms, room, issue_parties, issue_terms, issue_room}
use Rattle.ledger.proofs.held.Ledger.check_issue.Goals as goal

pub returns : goal.returns
returns g c =
    let size = g.L.Language.size c.args.language.now in
    let l = c.args.self.now in
    let k = c.args.grant.now in
    let report = c.args.report.now in
    let owned = c.owner-owner.ensures in
    c.check_chain.ensures
    ∙ ap (λ b. passed (chainless b ∷ [])) c.justifies.ensures
    ∙ sym (issue_room size k.grantor k.hook (owner_in l k.hook) k.grantee k.execute k.onward report l.last (length (held l.grants)) (stands_in size (g.L.Language.says c.args.language.now) l k) _
    (c.in_ok-check_parties.ensures ∙ ap (λ o. passed (parties k.grantor k.grantee k.hook o)) owned)
    (c.in_ok-check_terms.ensures ∙ ap (λ n. passed (terms n k.grantor k.execute k.onward report)) c.count.ensures)
    (c.in_ok-check_room.ensures ∙ (λ i. passed (room k.grantee k.grantor (owned i) l.last (length (c.rows.ensures i))))))

pub returns-in_err-check_parties : goal.returns-in_err-check_parties
returns-in_err-check_parties g c =
    let l = c.args.self.now in
    let k = c.args.grant.now in
    passed_on c.from_residual.result _ c.from_residual.ensures.1 (parties k.grantor k.grantee k.hook (owner_in l k.hook)) _
    (c.in_err-check_parties.ensures ∙ ap (λ o. passed (parties k.grantor k.grantee k.hook o)) c.owner-owner.ensures)

pub returns-in_err-check_terms : goal.returns-in_err-check_terms
returns-in_err-check_terms g c =
    let size = g.L.Language.size c.args.language.now in
    let l = c.args.self.now in
    let k = c.args.grant.now in
    let report = c.args.report.now in
    passed_on c.from_residual-in_err-check_terms.result _ c.from_residual-in_err-check_terms.ensures.1 (terms size k.grantor k.execute k.onward report) _
    (c.in_err-check_terms.ensures ∙ ap (λ n. passed (terms n k.grantor k.execute k.onward report)) c.count.ensures)
    ∙ sym (issue_parties size k.grantor k.hook (owner_in l k.hook) k.grantee k.execute k.onward report l.last (length (held l.grants)) (stands_in size (g.L.Language.says c.args.language.now) l k) _
    (c.in_ok-check_parties.ensures ∙ ap (λ o. passed (parties k.grantor k.grantee k.hook o)) c.owner-owner.ensures))

pub returns-in_err-check_room : goal.returns-in_err-check_room
returns-in_err-check_room g c =
    let size = g.L.Language.size c.args.language.now in
    let l = c.args.self.now in
    let k = c.args.grant.now in
    let report = c.args.report.now in
    let owned = c.owner-owner.ensures in
    passed_on c.from_residual-in_err-check_room.result _ c.from_residual-in_err-check_room.ensures.1 (room k.grantee k.grantor (owner_in l k.hook) l.last (length (held l.grants))) _
    (c.in_err-check_room.ensures ∙ (λ i. passed (room k.grantee k.grantor (owned i) l.last (length (c.rows.ensures i)))))
    ∙ sym (issue_terms size k.grantor k.hook (owner_in l k.hook) k.grantee k.execute k.onward report l.last (length (held l.grants)) (stands_in size (g.L.Language.says c.args.language.now) l k) _
    (c.in_ok-check_parties.ensures ∙ ap (λ o. passed (parties k.grantor k.grantee k.hook o)) owned)
    (c.in_ok-check_terms.ensures ∙ ap (λ n. passed (terms n k.grantor k.execute k.onward report)) c.count.ensures))
