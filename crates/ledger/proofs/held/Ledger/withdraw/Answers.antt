use Rattle.std.proofs.Common.{List, is_some, Option, unwrap_or, sym, refl, ap, ◌∙◌}
use Rattle.grants.specs.declared.Grant.{Grant}
use Rattle.grants.specs.Blank.{blank}
use Rattle.loans.specs.declared.state.HookState.{HookState}
use Rattle.plain.specs.Record.{World, Answer, Withdraw, withdraw_checks, passed}
use Rattle.ledger.specs.Answers.{told}
use Rattle.ledger.specs.Ledgers.{world_with}
use Rattle.ledger.proofs.Passing.{performs, refuses}
use Rattle.ledger.proofs.held.Ledger.withdraw.Goals as goal

pub returns : goal.returns
returns g c =
    let size = g.L.Language.size c.args.language.now in
    let says = g.L.Language.says c.args.language.now in
    let ok = c.in_ok-check_withdraw.ensures ∙ ap (λ (o : Option Grant). passed (withdraw_checks c.args.caller c.args.number (is_some o) (unwrap_or o blank).grantor)) c.get-old.ensures in
    let did = λ (hs : List HookState). performs size says (world_with c.args.self.now hs) (Withdraw c.args.caller c.args.number) _ ok in
    record {
      is = λ hs. ap told (c.end.ensures.is hs) ∙ sym (ap (λ (x : World × Answer). told x.1) (did hs));
      after = λ hs. c.end.ensures.after hs ∙ sym (ap (λ (x : World × Answer). x.0) (did hs));
    }

pub returns-in_err-check_withdraw : goal.returns-in_err-check_withdraw
returns-in_err-check_withdraw g c =
    let size = g.L.Language.size c.args.language.now in
    let says = g.L.Language.says c.args.language.now in
    let no_way = c.in_err-check_withdraw.ensures ∙ ap (λ (o : Option Grant). passed (withdraw_checks c.args.caller c.args.number (is_some o) (unwrap_or o blank).grantor)) c.get-old.ensures in
    let so = λ (hs : List HookState).
    refuses size says (world_with c.args.self.now hs) (Withdraw c.args.caller c.args.number) told (λ e. refl) c.from_residual.result _ c.from_residual.ensures.1 no_way in
    record { is = λ hs. (so hs).0; after = λ hs. (so hs).1 }
