-- The rows whose place is in a set: one row more, and that their numbers still rise.
use Rattle.std.proofs.Common.{◌≡◌, ℕ, zero, suc, ◌+◌, ◌<◌, ◌≤◌, Bool, true, false, cond, List, [], ◌∷◌, ◌++◌, length, get_or, take, drop, set, sym, ap, ◌∙◌, add-zero, add-one, arith, get_or-drop}
use Rattle.std.proofs.lemmas.List.{drop-drop, drop-set-lt, take_more_set, append-nil}
use Rattle.std.proofs.lemmas.Bool.{cond-true, cond-false}
use Rattle.numbered.specs.Rows.{Rises}
use Rattle.numbered.proofs.Laws.{RisesFrom, rises_parts, rises_whole, rises_lower}
use Rattle.grants.specs.declared.Grant.{Grant}
use Rattle.places.specs.Sets.{member}
use Rattle.register.specs.Held.{numbers, chosen_from, chosen}

module _ (places : ℕ) where
  one_more : (t : Bool) (x : Grant) (now before last : List Grant) → now ≡ before ++ last → cond t (x ∷ now) now ≡ cond t (x ∷ before) before ++ last
  one_more true x now before last e = ap (λ gs. x ∷ gs) e
  one_more false x now before last e = e

  step : (k i j : ℕ) (xs : List Grant) (d : Grant) → i < length xs → j ≡ k + i
      → chosen_from places k (take (suc i) xs) ≡ chosen_from places k (take i xs) ++ cond (member places j) (get_or xs i d ∷ []) []
  step k i j [] d h e = absurd (omega arith)
  step k zero j (x ∷ xs) d h e =
      let at : k ≡ j = omega arith in
      ap (λ n. cond (member places n) (x ∷ []) []) at
  step k (suc i) j (x ∷ xs) d h e = one_more (member places k) x _ _ _ (step (suc k) i j xs d (omega arith) (omega arith))

  pub chosen_more : (i : ℕ) (xs : List Grant) (d : Grant) → i < length xs
      → chosen places (take (i + 1) xs) ≡ chosen places (take i xs) ++ cond (member places i) (get_or xs i d ∷ []) []
  chosen_more i xs d h = ap (λ n. chosen places (take n xs)) (add-one i) ∙ step 0 i i xs d h (omega arith)

  -- ys began as xs: of its first i rows the chosen ones stand in the first k places, and from i on it is as it was
  pub record Choosing (xs ys : List Grant) (k i : ℕ) : Type 0 where
    pub behind : k ≤ i
    pub front : take k ys ≡ chosen places (take i xs)
    pub rest : drop i ys ≡ drop i xs

  drop_rest : (xs ys : List Grant) (i : ℕ) → drop i ys ≡ drop i xs → drop (i + 1) ys ≡ drop (i + 1) xs
  drop_rest xs ys i e = sym (drop-drop 1 i ys) ∙ ap (drop 1) e ∙ drop-drop 1 i xs

  pub choosing_no : (xs ys : List Grant) (k i : ℕ) (d : Grant) → Choosing xs ys k i → i < length xs → member places i ≡ false → Choosing xs ys k (i + 1)
  choosing_no xs ys k i d c h e =
      record {
        behind = omega arith;
        front =
            c.front ∙ sym (append-nil _) ∙ ap (λ gs. chosen places (take i xs) ++ gs) (sym (cond-false _ (get_or xs i d ∷ []) [] e))
            ∙ sym (chosen_more i xs d h);
        rest = drop_rest xs ys i c.rest;
      }

  pub choosing_yes : (xs ys : List Grant) (k i : ℕ) (d : Grant) → Choosing xs ys k i → i < length xs → length ys ≡ length xs → member places i ≡ true
      → Choosing xs (set ys k (get_or ys i d)) (k + 1) (i + 1)
  choosing_yes xs ys k i d c h long e =
      let at : (zs : List Grant) → get_or (drop i zs) 0 d ≡ get_or zs i d = λ zs. get_or-drop i zs 0 d ∙ ap (λ n. get_or zs n d) (add-zero i) in
      let same : get_or ys i d ≡ get_or xs i d = sym (at ys) ∙ ap (λ gs. get_or gs 0 d) c.rest ∙ at xs in
      record {
        behind = omega (arith, c.behind);
        front =
            take_more_set ys k (get_or ys i d) (omega (arith, c.behind))
            ∙ (λ j. c.front j ++ (same j ∷ []))
            ∙ ap (λ gs. chosen places (take i xs) ++ gs) (sym (cond-true _ (get_or xs i d ∷ []) [] e))
            ∙ sym (chosen_more i xs d h);
        rest = drop-set-lt (i + 1) ys k (get_or ys i d) (omega (arith, c.behind)) ∙ drop_rest xs ys i c.rest;
      }

  rises_from_lem : (low k : ℕ) (xs : List Grant) → RisesFrom numbers low xs → RisesFrom numbers low (chosen_from places k xs)
  rises_from_lem low k [] r = tt
  rises_from_lem low k (x ∷ xs) r =
      elim (member places k) as (λ b. RisesFrom numbers low (cond b (x ∷ chosen_from places (suc k) xs) (chosen_from places (suc k) xs))) [
        | true ↦ (r.0, rises_from_lem (suc (numbers x)) (suc k) xs r.1)
        | false ↦ rises_lower numbers low (suc (numbers x)) _ (omega arith) (rises_from_lem (suc (numbers x)) (suc k) xs r.1)
      ]

  pub chosen_rises : (xs : List Grant) → Rises numbers xs → Rises numbers (chosen places xs)
  chosen_rises xs r = rises_whole numbers 0 _ (rises_from_lem 0 0 xs (rises_parts numbers 0 xs r))
