-- Orphans, place by place and row by row.
use Rattle.std.proofs.Common.{◌≡◌, ℕ, suc, ◌+◌, ◌<◌, ◌≤◌, Bool, true, false, cond, ltb, List, [], ◌∷◌, length, get_or, IfSome, Some, None, Option, unwrap_or, sym, refl, ap, ◌∙◌, subst, ⊎_elim, suc-le-suc, add-one, arith}
use Rattle.std.specs.List.{remove, range_with_len}
use Rattle.std.proofs.lemmas.List.Sums.{sum_by-cons}
use Rattle.std.proofs.lemmas.List.Edits.{length-remove, get_or-remove_below, get_or-remove_above}
use Rattle.std.proofs.lemmas.Bool.{cond-true, cond-false, cases_lt, lt-ltb, le-ltb}
use Rattle.numbered.specs.Rows.{place_of, without}
use Rattle.numbered.proofs.Laws.{row_at, row_none, without_none}
use Rattle.grants.specs.declared.Grant.{Grant}
use Rattle.grants.specs.Blank.{blank}
use Rattle.register.specs.Held.{numbers}
use Rattle.plain.specs.Record.{count}
use Rattle.ledger.specs.Sweeps.{place_before, orphans_from}

one_more : (b : Bool) (n m : ℕ) → n ≡ m → cond b 1 0 + n ≡ cond b (suc m) m
one_more true n m e = omega (arith, e)
one_more false n m e = omega (arith, e)

-- the orphans among rows, by their places
pub orphans_rows : (test : Grant → Bool) (t : ℕ → Bool) (i : ℕ) (gs : List Grant) → ((k j : ℕ) → j ≡ i + k → k < length gs → t j ≡ test (get_or gs k blank)) → orphans_from t i (length gs) ≡ count test gs
orphans_rows test t i [] h = refl
orphans_rows test t i (g ∷ gs) h =
    sum_by-cons (λ j. cond (t j) 1 0) i (range_with_len (i + 1) (length gs)) ∙ ap (λ b. cond b 1 0 + orphans_from t (i + 1) (length gs)) (h 0 i (omega arith) (omega arith))
    ∙ one_more (test g) _ (count test gs) (orphans_rows test t (i + 1) gs (λ k j e lt. h (suc k) j (omega (arith, e)) (suc-le-suc lt)))

-- the place that a row had before another was taken out
module _ (n : ℕ) (r : List Grant) (few : length r ≤ 96) where
  abbrev Was : ℕ → ℕ → Type 0
  Was gone k = (get_or (without numbers n r) k blank ≡ get_or r (place_before gone k) blank) × (place_before gone k < length r)

  here : (p i k : ℕ) → without numbers n r ≡ remove r i → p ≡ i → i < length r → k < length (without numbers n r) → Was p k
  here p i k e q lt short =
      let long = length-remove r i lt in
      let low : k < length (remove r i) = subst (λ (xs : List Grant). k < length xs) e short in
      ⊎_elim
      (λ (b : k < p).
      let was = cond-true (ltb k p) k (suc k) (lt-ltb k p b) in
      (ap (λ (xs : List Grant). get_or xs k blank) e ∙ get_or-remove_below r i blank k (omega arith) lt ∙ ap (λ m. get_or r m blank) (sym was), omega (arith, was)))
      (λ (b : p ≤ k).
      let was = cond-false (ltb k p) k (suc k) (le-ltb k p b) in
      (ap (λ (xs : List Grant). get_or xs k blank) e ∙ get_or-remove_above r i blank k (omega arith) lt ∙ ap (λ m. get_or r m blank) (add-one k ∙ sym was), omega (arith, was)))
      (cases_lt k p)

  pub was_at : (o : Option ℕ) (k : ℕ) → o ≡ place_of numbers n r → IfSome o (λ i. i < length r) → k < length (without numbers n r) → Was (unwrap_or o 96) k
  was_at None k e within short =
      let same = without_none numbers n r (row_none numbers n 0 r (sym e)) in
      let low : k < length r = subst (λ (xs : List Grant). k < length xs) same short in
      let was = cond-true (ltb k 96) k (suc k) (lt-ltb k 96 (omega arith)) in
      (ap (λ (xs : List Grant). get_or xs k blank) same ∙ ap (λ m. get_or r m blank) (sym was), omega (arith, was))
  was_at (Some p) k e within short =
      let row = row_at numbers n 0 p r blank (sym e) in
      let at : p ≡ row.0 = omega (arith, row.1) in
      here p row.0 k row.3 at (omega (arith, within)) short
