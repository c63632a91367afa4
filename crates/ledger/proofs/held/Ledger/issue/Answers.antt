use Rattle.std.proofs.Common.{◌+◌, List, [], ◌∷◌, ◌++◌, Ok, sym, refl, ap, ◌∙◌}
use Rattle.grants.specs.declared.Grant.{Grant}
use Rattle.loans.specs.declared.state.HookState.{HookState}
use Rattle.register.specs.Held.{held}
use Rattle.plain.specs.Record.{World, Answer, Issue, passed, with_grants}
use Rattle.ledger.specs.Answers.{told}
use Rattle.ledger.specs.Ledgers.{world_with, issue_on}
use Rattle.ledger.proofs.Passing.{performs, refuses, issue_left}
use Rattle.ledger.proofs.held.Ledger.issue.Goals as goal

pub returns : goal.returns
returns g c =
    let size = g.L.Language.size c.args.language.now in
    let says = g.L.Language.says c.args.language.now in
    let l = c.args.self.now in
    let a = c.args in
    let t = a.terms.now in
    let made = c.grant_by-grant.ensures in
    let call = Issue a.caller a.hook a.grantee t in
    let ok = c.in_ok-check_issue.ensures ∙ ap (λ (k : Grant). passed (issue_on size says l k t.report)) made in
    record {
      is = λ hs. ap (λ (w : World). Ok w.last) (c.add.ensures hs) ∙ sym (ap (λ (x : World × Answer). told x.1) (performs size says (world_with l hs) call _ ok));
      after = λ hs.
          c.add.ensures hs
          ∙ ap (λ (k : Grant). with_grants (world_with l hs) (l.last + 1) (held l.grants ++ (k ∷ []))) made
          ∙ sym (ap (λ (x : World × Answer). x.0) (performs size says (world_with l hs) call _ ok));
    }

pub returns-in_err-check_issue : goal.returns-in_err-check_issue
returns-in_err-check_issue g c =
    let size = g.L.Language.size c.args.language.now in
    let says = g.L.Language.says c.args.language.now in
    let l = c.args.self.now in
    let a = c.args in
    let t = a.terms.now in
    let call = Issue a.caller a.hook a.grantee t in
    let no_way = c.in_err-check_issue.ensures ∙ ap (λ (k : Grant). passed (issue_on size says l k t.report)) c.grant_by-grant.ensures in
    let so = λ (hs : List HookState). refuses size says (world_with l hs) call told (λ e. refl) c.from_residual.result _ c.from_residual.ensures.1 no_way in
    record { is = λ hs. (so hs).0; after = λ hs. (so hs).1 }

pub add-requires : goal.add-requires
add-requires g c =
    let size = g.L.Language.size c.args.language.now in
    let says = g.L.Language.says c.args.language.now in
    let free = issue_left size says c.args.self.now c.grant_by-grant.result c.args.terms.now.report _ c.in_ok-check_issue.ensures in
    record { next = ap (λ (k : Grant). k.number) c.grant_by-grant.ensures; left = free.0; room = free.1 }
