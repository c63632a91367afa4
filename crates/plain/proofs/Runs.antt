-- What every cabinet keeps that calls can make of a new one.
use Rattle.std.proofs.Common.{◌≡◌, ℕ, zero, suc, ◌+◌, ◌<◌, ◌≤◌, Bool, false, not, ◌||◌, eqb, ltb, List, [], ◌∷◌, ◌++◌, length, get_or, replicate, is_some, Some, None, Option, unwrap_or, sym, refl, ap, ◌∙◌, subst, inl, inr, ⊎_elim, arith, length-append}
use Rattle.std.specs.List.{AllByRecursion}
use Rattle.std.proofs.lemmas.Bool.{true≢false, or_parts, not-false, eqb-true, eqb-false, leb-false}
use Rattle.states.specs.declared.state.State.{State}
use Rattle.grants.specs.declared.Grant.{Grant}
use Rattle.grants.specs.Blank.{blank}
use Rattle.conditions.specs.declared.truth.Truth.{Truth}
use Rattle.numbered.specs.Rows.{without}
use Rattle.loans.specs.declared.state.HookState.{HookState}
use Rattle.loans.specs.declared.state.HookState.TheVariants as key
use Rattle.chains.specs.Lists.{In}
use Rattle.chains.specs.Order.{Rising}
use Rattle.chains.proofs.Lists.{all_in, sorted_append, sorted_keep}
use Rattle.plain.specs.Record.{World, Call, Fit, Issue, Amend, Withdraw, Draw, Take, Leave, Return, checks, done, step, run, new, with_hook, is_resting, stands_on, owner, lookup, grant_at, number_of, issued, amended}
use Rattle.plain.specs.Laws.{Fine}
use Rattle.plain.proofs.Rows.{all_keep, keep_short, all_without, sorted_without, row_in, in_without, without_short, without_shorter}
use Rattle.plain.proofs.Checked.{Passed, off, keeps_judged}

abbrev pub lower : Grant → Grant → Type 0
lower a b = a.number < b.number

-- a number that is found is that of a grant on record
pub there : (r : List Grant) (n : ℕ) → not (is_some (lookup r n)) ≡ false → (lookup r n ≡ Some (grant_at r n)) × In (grant_at r n) r × ((grant_at r n).number ≡ n)
there r n h = go (lookup r n) refl h
  where
    go : (o : Option Grant) → lookup r n ≡ o → not (is_some o) ≡ false → (lookup r n ≡ Some (unwrap_or o blank)) × In (unwrap_or o blank) r × ((unwrap_or o blank).number ≡ n)
    go None e k = absurd (true≢false k)
    go (Some g) e k = let f = row_in number_of n r g e in (e, f.0, f.1)

zeros : (n h : ℕ) → ◌≡◌ {A = ℕ} (get_or (replicate n 0) h 0) 0
zeros zero h = refl
zeros (suc n) zero = refl
zeros (suc n) (suc h) = zeros n h

pub fine_new : Fine new
fine_new = record { rising = tt; low = tt; few = omega arith; spent = omega arith; unowned = λ e h. zeros 32 h; bare = λ e. refl }

rising_add : (r : List Grant) (g : Grant) (n : ℕ) → Rising r → AllByRecursion (λ (b : Grant). b.number ≤ n) r → g.number ≡ n + 1 → Rising (r ++ (g ∷ []))
rising_add r g n up low e = sorted_append lower r (g ∷ []) up (tt, tt) (λ x y i j. ⊎_elim (λ k. let l = all_in (λ (b : Grant). b.number ≤ n) r low x i in let m = ap number_of k in omega (arith, l, m)) (λ k. absurd k) j)

low_add : (r : List Grant) (g : Grant) (n : ℕ) → AllByRecursion (λ (b : Grant). b.number ≤ n) r → g.number ≡ n + 1 → AllByRecursion (λ (b : Grant). b.number ≤ n + 1) (r ++ (g ∷ []))
low_add [] g n low e = (omega arith, tt)
low_add (b ∷ r) g n low e = let l = low.0 in (omega arith, low_add r g n low.1 e)

none_there : (r : List Grant) (n : ℕ) → r ≡ [] → not (is_some (lookup r n)) ≡ false → ⊥
none_there r n e h = true≢false (subst (λ l. not (is_some (lookup l n)) ≡ false) e h)

fine_hook : (w : World) (h : ℕ) (k : HookState) → Fine w → Fine (with_hook w h k)
fine_hook w h k f = record { rising = f.rising; low = f.low; few = f.few; spent = f.spent; unowned = f.unowned; bare = f.bare }

module _ (size : ℕ) (means : ℕ → State → Truth) (put see : ℕ → State → State) where
  -- whether a grant stays in a sweep
  abbrev pub stays : World → List Grant → Grant → Bool
  stays w r g = is_resting g.mode || stands_on size means put see w r g

  fine_done : (w : World) (k : Call) → Fine w → Passed (checks size means put see w k) → Fine (done size means put see w k).0
  fine_done w (Fit owners kept) f a = record { rising = f.rising; low = f.low; few = f.few; spent = f.spent; unowned = λ e. absurd (true≢false e); bare = λ e. absurd (true≢false e) }
  fine_done w (Issue caller h grantee terms) f a =
      let g = issued size means put see w caller h grantee terms in
      let l = leb-false 1000000 w.last (off _ _ a.1.1.1.1.1.1.1.0) in
      let m = leb-false 96 (length w.grants) (off _ _ a.1.1.1.1.1.1.1.1.0) in
      let e = length-append w.grants (g ∷ []) in
      record {
        rising = rising_add w.grants g w.last f.rising f.low refl;
        low = low_add w.grants g w.last f.low refl;
        few = omega (arith, e, m);
        spent = omega (arith, l);
        unowned = f.unowned;
        bare = λ e. absurd (eqb-false (owner w h) 0 (or_parts (ltb 31 h) (eqb (owner w h) 0) (off _ _ a.1.1.0)).1 (f.unowned e h));
      }
  fine_done w (Amend caller n terms) f a =
      let g = amended size means put see w caller n terms in
      let rest = without number_of n w.grants in
      let r = rest ++ (g ∷ []) in
      let lo = all_without number_of n (λ (b : Grant). b.number ≤ w.last) w.grants f.low in
      let here = off _ _ a.1.1.1.1.0 in
      let l = leb-false 1000000 w.last (off _ _ a.1.1.1.1.1.1.0) in
      let k = without_shorter number_of n w.grants (grant_at w.grants n) (there w.grants n here).0 in
      let q = keep_short (stays w r) r in
      let e = length-append rest (g ∷ []) in
      let b = f.few in
      record {
        rising = sorted_keep lower (stays w r) r (rising_add rest g w.last (sorted_without number_of n lower w.grants f.rising) lo refl);
        low = all_keep (λ (b : Grant). b.number ≤ w.last + 1) (stays w r) r (low_add rest g w.last lo refl);
        few = omega (arith, q, e, k, b);
        spent = omega (arith, l);
        unowned = f.unowned;
        bare = λ e. absurd (none_there w.grants n (f.bare e) here);
      }
  fine_done w (Withdraw caller n) f a =
      let r = without number_of n w.grants in
      let k = without_short number_of n w.grants in
      let q = keep_short (stays w r) r in
      let b = f.few in
      record {
        rising = sorted_keep lower (stays w r) r (sorted_without number_of n lower w.grants f.rising);
        low = all_keep (λ (b : Grant). b.number ≤ w.last) (stays w r) r (all_without number_of n (λ (b : Grant). b.number ≤ w.last) w.grants f.low);
        few = omega (arith, q, k, b);
        spent = f.spent;
        unowned = f.unowned;
        bare = λ e. absurd (none_there w.grants n (f.bare e) (off _ _ a.1.0));
      }
  fine_done w (Draw caller h told) f a = fine_hook w h (key.Promised caller) f
  fine_done w (Take h p) f a = fine_hook w h key.Out f
  fine_done w (Leave h p) f a = fine_hook w h key.In f
  fine_done w (Return caller h) f a = fine_hook w h key.In f

  pub fine_step : (w : World) (k : Call) → Fine w → Fine (step size means put see w k).0
  fine_step w k f = keeps_judged Fine w (checks size means put see w k) (done size means put see w k) f (fine_done w k f)

  pub fine_run : (ks : List Call) (w : World) → Fine w → Fine (run size means put see w ks)
  fine_run [] w f = f
  fine_run (k ∷ ks) w f = fine_run ks (step size means put see w k).0 (fine_step w k f)

-- numbers are given once
pub unique : (r : List Grant) → Rising r → (a b : Grant) → In a r → In b r → a.number ≡ b.number → a ≡ b
unique [] up a b i j e = absurd i
unique (g ∷ r) up a b (inl i) (inl j) e = sym i ∙ j
unique (g ∷ r) up a b (inl i) (inr j) e = let l = all_in (lower g) r up.0 b j in let k = ap number_of i in absurd (omega (arith, l, k))
unique (g ∷ r) up a b (inr i) (inl j) e = let l = all_in (lower g) r up.0 a i in let k = ap number_of j in absurd (omega (arith, l, k))
unique (g ∷ r) up a b (inr i) (inr j) e = unique r up.1 a b i j e

-- p takes out no grant of another
pub others_stay : (r : List Grant) (n p : ℕ) → Rising r → not (is_some (lookup r n)) ≡ false → not (eqb (grant_at r n).grantor p) ≡ false
    → (g : Grant) → In g r → (g.grantor ≡ p → ⊥) → In g (without number_of n r)
others_stay r n p up here mine g i other =
    let f = there r n here in
    let m = eqb-true (grant_at r n).grantor p (not-false (eqb (grant_at r n).grantor p) mine) in
    in_without number_of n r g i (λ e. other (ap (λ (x : Grant). x.grantor) (unique r up g (grant_at r n) i f.1 (e ∙ sym f.2)) ∙ m))
