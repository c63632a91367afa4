-- Nobody else breaks a chain.
use Rattle.std.proofs.Common.{◌≡◌, ℕ, false, not, ◌||◌, eqb, ltb, List, [], ◌∷◌, ◌++◌, is_some, Some, None, Option, refl, subst, arith}
use Rattle.std.specs.List.{AllByRecursion}
use Rattle.faults.specs.declared.Refusal.TheVariants.{NotAPerson, NoSuchHook, NoChain}
use Rattle.faults.specs.Faults.{fault}
use Rattle.states.specs.declared.state.State.{State}
use Rattle.states.specs.declared.report.Report.{Report}
use Rattle.states.specs.Reports.{state_of}
use Rattle.grants.specs.declared.Grant.{Grant}
use Rattle.conditions.specs.declared.truth.Truth.{Truth}
use Rattle.numbered.specs.Rows.{without}
use Rattle.chains.specs.Lists.{In}
use Rattle.chains.specs.Chains.{Serves}
use Rattle.chains.specs.Search.{is_person}
use Rattle.chains.proofs.Lists.{all_in, in_left}
use Rattle.chains.proofs.Sound.{chosen_none}
use Rattle.chains.proofs.Standing.{chain_on, chain_owner, same_serving}
use Rattle.plain.specs.Record.{World, Call, Fit, Issue, Amend, Withdraw, Draw, Take, Leave, Return, Refused, By, chainless, checks, done, step, run, new, owner, grant_at, number_of, seen, swept, issued, amended, drawn, hook_at}
use Rattle.plain.specs.Laws.{Fine, ServesDraw, Unbroken}
use Rattle.plain.proofs.Checked.{Passed, off, code, code_check, code_range, code_draw, keeps_judged, not_refused}
use Rattle.plain.proofs.Runs.{fine_step, fine_run, fine_new, others_stay}
use Rattle.plain.proofs.Swept.{swept_rid}

module _ (size : ℕ) (means : ℕ → State → Truth) (put see : ℕ → State → State) where
  -- a chain with no grant by p, over calls by p
  module _ (p h q : ℕ) (s : State) (c : List Grant) (other : AllByRecursion (λ (g : Grant). g.grantor ≡ p → ⊥) c) where
    abbrev Held : World → Type 0
    Held w = Serves means (seen size means put see w) w.grants h (owner w h) q s c

    not_mine : (g : Grant) → In g c → g.grantor ≡ p → ⊥
    not_mine g i = all_in (λ (g : Grant). g.grantor ≡ p → ⊥) c other g i

    held_done : (w : World) (k : Call) → By p k → Fine w → Held w → Passed (checks size means put see w k) → Held (done size means put see w k).0
    held_done w (Fit owners kept) b f x a =
        let o = chain_owner w.grants h (owner w h) c q x.0 in
        let z = f.unowned (off _ _ a.0) h in
        absurd (omega (arith, o.0, z))
    held_done w (Issue caller h' grantee terms) b f x a =
        let g = issued size means put see w caller h' grantee terms in
        (chain_on w.grants (w.grants ++ (g ∷ [])) h (owner w h) c q (λ e i j. in_left e w.grants (g ∷ []) j) x.0, x.1, x.2)
    held_done w (Amend caller n terms) b f x a =
        let g = amended size means put see w caller n terms in
        let rest = without number_of n w.grants in
        let here = off _ _ a.1.1.1.1.0 in
        let mine = off _ _ a.1.1.1.1.1.0 in
        (same_serving means (seen size means put see w) (owner w) (rest ++ (g ∷ [])) (swept size means put see w (rest ++ (g ∷ []))) (swept_rid size means put see w (rest ++ (g ∷ []))) h q s c).0 (
          chain_on w.grants (rest ++ (g ∷ [])) h (owner w h) c q
              (λ e i j. in_left e rest (g ∷ []) (others_stay w.grants n p f.rising here (subst (λ u. not (eqb (grant_at w.grants n).grantor u) ≡ false) b mine) e j (not_mine e i)))
              x.0,
          x.1,
          x.2,
        )
    held_done w (Withdraw caller n) b f x a =
        let rest = without number_of n w.grants in
        let here = off _ _ a.1.0 in
        let mine = off _ _ a.1.1.0 in
        (same_serving means (seen size means put see w) (owner w) rest (swept size means put see w rest) (swept_rid size means put see w rest) h q s c).0 (
          chain_on w.grants rest h (owner w h) c q
              (λ e i j. others_stay w.grants n p f.rising here (subst (λ u. not (eqb (grant_at w.grants n).grantor u) ≡ false) b mine) e j (not_mine e i))
              x.0,
          x.1,
          x.2,
        )
    held_done w (Draw caller h' told) b f x a = x
    held_done w (Take h' p') b f x a = x
    held_done w (Leave h' p') b f x a = x
    held_done w (Return caller h') b f x a = x

    held_run : (ks : List Call) → AllByRecursion (By p) ks → (w : World) → Fine w → Held w → Held (run size means put see w ks)
    held_run [] b w f x = x
    held_run (k ∷ ks) b w f x =
        held_run ks b.1 (step size means put see w k).0 (fine_step size means put see w k f)
        (keeps_judged Held w (checks size means put see w k) (done size means put see w k) x (held_done w k b.0 f x))

  -- a draw that a chain justifies is not refused for want of one
  pub not_for_want : (w : World) (h q : ℕ) (told : Report) (c : List Grant) → ServesDraw size means put see w h q told c
      → (place : ℕ) → (step size means put see w (Draw q h told)).1 ≡ Refused (fault NoChain place) → ⊥
  not_for_want w h q told c x place =
      not_refused place w (checks size means put see w (Draw q h told)) (done size means put see w (Draw q h told)) (
        λ e. code_check 11 (not (is_person q)) NotAPerson 2 (λ z. omega arith) (λ z. omega arith) e,
        (
          λ e. code_check 11 (ltb 31 h || eqb (owner w h) 0) NoSuchHook h (λ z. omega arith) (λ z. omega arith) e,
          (
            λ e. code_range (state_of q None told) e,
            (
              λ e. go (drawn size means put see w q h told) refl e,
              (λ e. code_draw h (hook_at w h) q e, tt),
            ),
          ),
        ),
      )
      (λ e. let z : ◌≡◌ {A = ℕ} 0 1 = cc e in omega (arith, z))
    where
      go : (o : Option (List Grant)) → drawn size means put see w q h told ≡ o → code (chainless (is_some o)) ≡ 11 → ⊥
      go None e k = chosen_none means (seen size means put see w) w.grants h (owner w h) q (state_of q None told) e c x
      go (Some d) e k = omega arith

  pub unbroken : Unbroken size means put see
  unbroken past calls p by h q told c x other =
      let w = run size means put see new past in
      let y = held_run p h q (state_of q None told) c other calls by w (fine_run size means put see past new fine_new) x in
      (y, not_for_want (run size means put see w calls) h q told c y)
