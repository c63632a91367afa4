-- Every grant of mode E on record stands.
use Rattle.std.proofs.Common.{◌≡◌, ℕ, true, ◌||◌, List, [], ◌∷◌, ◌++◌, ap, ◌∙◌, subst, ⊎_elim}
use Rattle.std.proofs.lemmas.Bool.{or_left, or_right, or_cases, not-false}
use Rattle.states.specs.declared.state.State.{State}
use Rattle.grants.specs.declared.Grant.{Grant}
use Rattle.conditions.specs.declared.truth.Truth.{Truth}
use Rattle.numbered.specs.Rows.{without}
use Rattle.chains.specs.Lists.{In}
use Rattle.chains.proofs.Lists.{in_append, in_left, keep_in}
use Rattle.chains.proofs.Sound.{decides_stands}
use Rattle.chains.proofs.Standing.{chain_on}
use Rattle.plain.specs.Record.{World, Call, Fit, Issue, Amend, Withdraw, Draw, Take, Leave, Return, checks, done, step, run, new, is_resting, stands_on, owner, seen, swept, number_of, issued, amended}
use Rattle.plain.specs.Laws.{Fine, ExpiringStand}
use Rattle.plain.proofs.Checked.{Passed, off, keeps_judged}
use Rattle.plain.proofs.Runs.{stays, fine_step, fine_new}
use Rattle.plain.proofs.Swept.{same_stands}

module _ (size : ℕ) (means : ℕ → State → Truth) (put see : ℕ → State → State) where
  -- nothing on record would leave in a sweep
  abbrev Settled : World → Type 0
  Settled w = (g : Grant) → In g w.grants → stays size means put see w w.grants g ≡ true

  -- more grants end no standing
  stays_more : (w : World) (r : List Grant) (g b : Grant) → stays size means put see w r b ≡ true → stays size means put see w (r ++ (g ∷ [])) b ≡ true
  stays_more w r g b t =
      let st = seen size means put see w in
      let q = r ++ (g ∷ []) in
      ⊎_elim
      (λ k. or_left (is_resting b.mode) (stands_on size means put see w q b) k)
      (λ k.
      let s = (decides_stands means st r (owner w) b).0 k in
      or_right (is_resting b.mode) (stands_on size means put see w q b)
      ((decides_stands means st q (owner w) b).1 (s.0, (chain_on r q b.hook (owner w b.hook) s.0 b.grantor (λ e i j. in_left e r (g ∷ []) j) s.1.0, s.1.1, s.1.2))))
      (or_cases (is_resting b.mode) (stands_on size means put see w r b) t)

  -- what a sweep leaves is settled
  swept_settled : (w : World) (r : List Grant) (g : Grant) → In g (swept size means put see w r) → stays size means put see w (swept size means put see w r) g ≡ true
  swept_settled w r g i = ap (λ b. is_resting g.mode || b) (same_stands size means put see w r g) ∙ (keep_in (stays size means put see w r) r g i).1

  settled_done : (w : World) (k : Call) → Fine w → Settled w → Passed (checks size means put see w k) → Settled (done size means put see w k).0
  settled_done w (Fit owners set) f e a g i = absurd (subst (In g) (f.bare (off _ _ a.0)) i)
  settled_done w (Issue caller h grantee terms) f e a b i =
      let g = issued size means put see w caller h grantee terms in
      stays_more w w.grants g b
      (⊎_elim
      (λ j. e b j)
      (λ j.
      ⊎_elim
      (λ q. subst (λ u. stays size means put see w w.grants u ≡ true) q (or_right (is_resting g.mode) (stands_on size means put see w w.grants g) (not-false (stands_on size means put see w w.grants g) (off _ _ a.1.1.1.1.1.1.1.1.1.0))))
      (λ z. absurd z) j)
      (in_append b w.grants (g ∷ []) i))
  settled_done w (Amend caller n terms) f e a g i = swept_settled w (without number_of n w.grants ++ (amended size means put see w caller n terms ∷ [])) g i
  settled_done w (Withdraw caller n) f e a g i = swept_settled w (without number_of n w.grants) g i
  settled_done w (Draw caller h told) f e a g i = e g i
  settled_done w (Take h p) f e a g i = e g i
  settled_done w (Leave h p) f e a g i = e g i
  settled_done w (Return caller h) f e a g i = e g i

  settled_run : (ks : List Call) (w : World) → Fine w → Settled w → Settled (run size means put see w ks)
  settled_run [] w f e = e
  settled_run (k ∷ ks) w f e =
      settled_run ks (step size means put see w k).0 (fine_step size means put see w k f)
      (keeps_judged Settled w (checks size means put see w k) (done size means put see w k) e (settled_done w k f e))

  pub expiring_stand : ExpiringStand size means put see
  expiring_stand past g i e =
      let w = run size means put see new past in
      let t = settled_run past new fine_new (λ g i. absurd i) g i in
      (decides_stands means (seen size means put see w) w.grants (owner w) g).0 (subst (λ m. (is_resting m || stands_on size means put see w w.grants g) ≡ true) e t)
