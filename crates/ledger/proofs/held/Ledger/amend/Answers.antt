use Rattle.std.proofs.Common.{◌≡◌, ◌+◌, ◌<◌, ◌≤◌, false, not, List, [], ◌∷◌, ◌++◌, length, is_some, Ok, Option, sym, refl, ap, ◌∙◌, subst, arith}
use Rattle.std.proofs.lemmas.List.{length-take}
use Rattle.numbered.specs.Rows.{without}
use Rattle.grants.specs.declared.Grant.{Grant}
use Rattle.loans.specs.declared.state.HookState.{HookState}
use Rattle.register.specs.Held.{held, numbers}
use Rattle.plain.specs.Record.{World, Answer, Amend, passed, grant_at, with_grants}
use Rattle.plain.proofs.Rows.{without_shorter}
use Rattle.plain.proofs.Runs.{there}
use Rattle.ledger.specs.Answers.{told}
use Rattle.ledger.specs.Ledgers.{world_with, amend_on}
use Rattle.ledger.specs.Sweeps.{settled}
use Rattle.ledger.proofs.Passing.{performs, refuses, amend_left, amended_is}
use Rattle.ledger.proofs.held.Ledger.amend.Goals as goal

pub returns : goal.returns
returns g c =
    let size = g.L.Language.size c.args.language.now in
    let says = g.L.Language.says c.args.language.now in
    let l = c.args.self.now in
    let a = c.args in
    let t = a.terms.now in
    let made = amended_is l a.caller a.number t c.get-old.result c.unwrap_or-known.result c.blank.result c.grant_by-grant.result c.get-old.ensures c.blank.ensures c.unwrap_or-known.ensures c.grant_by-grant.ensures in
    let ok = c.in_ok-check_amend.ensures ∙ (λ i. passed (amend_on size says l (c.get-old.ensures i) a.number (made i) t.report)) in
    let did = λ (hs : List HookState). performs size says (world_with l hs) (Amend a.caller a.number t) _ ok in
    let put = λ (hs : List HookState).
    c.settle.ensures hs
    ∙ ap (settled size says) (c.add.ensures hs ∙ (λ i. let w = c.take_out.ensures hs i in with_grants w (w.last + 1) (w.grants ++ (made i ∷ [])))) in
    record {
      is = λ hs. ap (λ (w : World). Ok w.last) (put hs) ∙ sym (ap (λ (x : World × Answer). told x.1) (did hs));
      after = λ hs. put hs ∙ sym (ap (λ (x : World × Answer). x.0) (did hs));
    }

pub returns-in_err-check_amend : goal.returns-in_err-check_amend
returns-in_err-check_amend g c =
    let size = g.L.Language.size c.args.language.now in
    let says = g.L.Language.says c.args.language.now in
    let l = c.args.self.now in
    let a = c.args in
    let t = a.terms.now in
    let made = amended_is l a.caller a.number t c.get-old.result c.unwrap_or-known.result c.blank.result c.grant_by-grant.result c.get-old.ensures c.blank.ensures c.unwrap_or-known.ensures c.grant_by-grant.ensures in
    let no_way = c.in_err-check_amend.ensures ∙ (λ i. passed (amend_on size says l (c.get-old.ensures i) a.number (made i) t.report)) in
    let so = λ (hs : List HookState).
    refuses size says (world_with l hs) (Amend a.caller a.number t) told (λ e. refl) c.from_residual.result _ c.from_residual.ensures.1 no_way in
    record { is = λ hs. (so hs).0; after = λ hs. (so hs).1 }

pub add-requires : goal.add-requires
add-requires g c =
    let size = g.L.Language.size c.args.language.now in
    let says = g.L.Language.says c.args.language.now in
    let l = c.args.self.now in
    let n = c.args.number in
    let r = held l.grants in
    let out = c.take_out.ensures [] in
    let left = amend_left size says l c.grant_by-grant.result c.args.terms.now.report c.get-old.result n _ c.in_ok-check_amend.ensures in
    let last : c.take_out.new.self.last ≡ l.last = ap (λ (w : World). w.last) out in
    let few : length r ≤ 96 = omega (arith, length-take l.grants.count l.grants.rows, l.grants.within) in
    let shorter : length (without numbers n r) < length r = without_shorter numbers n r (grant_at r n) (there r n (subst (λ (o : Option Grant). not (is_some o) ≡ false) c.get-old.ensures left.1)).0 in
    record {
      next = ap (λ (k : Grant). k.number) c.grant_by-grant.ensures ∙ ap (λ m. m + 1) (sym last);
      left = omega (arith, last, left.0);
      room = subst (λ (gs : List Grant). length gs < 96) (sym (ap (λ (w : World). w.grants) out)) (omega (arith, shorter, few));
    }
