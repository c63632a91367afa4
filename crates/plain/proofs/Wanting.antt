-- Refused for want of a chain exactly when there is none.
use Rattle.std.proofs.Common.{◌≡◌, ℕ, cond, eqb, ltb, List, [], ◌∷◌, map, reverse, length, is_some, Some, None, Ok, Err, Decides, Option, unwrap_or, sym, refl, ap, ◌∙◌, arith}
use Rattle.std.proofs.lemmas.Bool.{true≢false, or_parts, ltb-false, lt-ltb}
use Rattle.faults.specs.declared.Fault.{Fault}
use Rattle.faults.specs.declared.Refusal.TheVariants.{NoSuchHook}
use Rattle.faults.specs.Faults.{fault}
use Rattle.states.specs.declared.state.State.{State}
use Rattle.states.specs.declared.report.Report.{Report}
use Rattle.states.specs.Reports.{state_of}
use Rattle.grants.specs.declared.Grant.{Grant}
use Rattle.conditions.specs.declared.truth.Truth.{Truth}
use Rattle.loans.specs.declared.state.HookState.{HookState}
use Rattle.loans.specs.declared.state.HookState.TheVariants as key
use Rattle.loans.specs.declared.state.Event.TheVariants as event
use Rattle.loans.specs.Events.{judged}
use Rattle.chains.specs.Order.{Rising}
use Rattle.chains.proofs.Sound.{decides_stands, chosen_none, chosen_serves}
use Rattle.chains.proofs.Least.{least_chosen}
use Rattle.plain.specs.Record.{World, Issue, Amend, Draw, Answer, Slip, found, chainless, judged_by, first_fault, draw_before, issue_before, amend_before, done, owner, hook_at, with_hook, number_of, lookup, grant_at, seen, stands_on, issued, amended, drawn}
use Rattle.plain.specs.Laws.{ServesDraw, DrawRefused, IssueRefused, AmendRefused, DrawNames}
use Rattle.plain.proofs.Checked.{off, all_pass, code_draw, skipped, for_want}

module _ (size : ℕ) (means : ℕ → State → Truth) (put see : ℕ → State → State) (w : World) where
  decides_drawn : (caller h : ℕ) (told : Report) → Decides (is_some (drawn size means put see w caller h told)) ((c : List Grant) × ServesDraw size means put see w h caller told c)
  decides_drawn caller h told = go (drawn size means put see w caller h told) refl
    where
      go : (o : Option (List Grant)) → drawn size means put see w caller h told ≡ o → Decides (is_some o) ((c : List Grant) × ServesDraw size means put see w h caller told c)
      go None e = (λ t. absurd (true≢false (sym t)), λ x. absurd (chosen_none means (seen size means put see w) w.grants h (owner w h) caller (state_of caller None told) e x.0 x.1))
      go (Some c) e = (λ t. (c, chosen_serves means (seen size means put see w) w.grants h (owner w h) caller (state_of caller None told) c e), λ x. refl)

  pub draw_refused : DrawRefused size means put see w
  draw_refused caller h told pass =
      let both = for_want w (draw_before caller h (owner w h) (state_of caller None told)) (found (judged h (hook_at w h) (event.Draw caller)) ∷ []) (is_some (drawn size means put see w caller h told)) (done size means put see w (Draw caller h told))
      (decides_drawn caller h told) pass (λ e. code_draw h (hook_at w h) caller e, tt) (λ e. let z : ◌≡◌ {A = ℕ} 0 1 = cc e in omega (arith, z)) in
      (λ r c x. both.0 r (c, x), λ none. both.1 (λ x. none x.0 x.1))

  pub issue_refused : IssueRefused size means put see w
  issue_refused caller h grantee terms pass =
      let g = issued size means put see w caller h grantee terms in
      for_want w (issue_before size caller h (owner w h) grantee terms.execute terms.onward (state_of caller None terms.report) w.last (length w.grants)) [] (stands_on size means put see w w.grants g) (done size means put see w (Issue caller h grantee terms))
      (decides_stands means (seen size means put see w) w.grants (owner w) g) pass tt (λ e. let z : ◌≡◌ {A = ℕ} 0 1 = cc e in omega (arith, z))

  pub amend_refused : AmendRefused size means put see w
  amend_refused caller n terms pass =
      let g = amended size means put see w caller n terms in
      for_want w (amend_before size caller n terms.execute terms.onward (state_of caller None terms.report) w.last (is_some (lookup w.grants n)) (grant_at w.grants n).grantor) [] (stands_on size means put see w w.grants g) (done size means put see w (Amend caller n terms))
      (decides_stands means (seen size means put see w) w.grants (owner w) g) pass tt (λ e. let z : ◌≡◌ {A = ℕ} 0 1 = cc e in omega (arith, z))

  pub draw_names : Rising w.grants → DrawNames size means put see w
  draw_names up caller h told c pass inside x =
      let low = ltb-false 31 h (or_parts (ltb 31 h) (eqb (owner w h) 0) (off _ _ (all_pass (draw_before caller h (owner w h) (state_of caller None told)) pass).1.0)).0 in
      ap (λ o. (judged_by w o (finish (drawn size means put see w caller h told))).1) (skipped (draw_before caller h (owner w h) (state_of caller None told)) (behind (drawn size means put see w caller h told) (hook_at w h)) pass)
      ∙ ap (λ o. (judged_by w (first_fault (behind o (hook_at w h))) (finish o)).1) (least_chosen means (seen size means put see w) w.grants h (owner w h) caller (state_of caller None told) up c x)
      ∙ ap (λ k. (judged_by w (first_fault (behind (Some c) k)) (finish (Some c))).1) inside
      ∙ ap (λ b. (judged_by w (first_fault (found (cond b (Ok (key.Promised caller)) (Err (fault NoSuchHook h))) ∷ [])) (finish (Some c))).1) (lt-ltb h 32 (omega (arith, low)))
    where
      behind : Option (List Grant) → HookState → List (Option Fault)
      behind o k = chainless (is_some o) ∷ found (judged h k (event.Draw caller)) ∷ []

      finish : Option (List Grant) → World × Answer
      finish o = (with_hook w h (key.Promised caller), Slip h caller (reverse (map number_of (unwrap_or o []))))
