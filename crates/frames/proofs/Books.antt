-- The book is passed over field by field.
use Rattle.std.proofs.Common.{◌≡◌, ℕ, zero, suc, ◌+◌, ◌-◌, ◌*◌, ◌<◌, ◌≤◌, min, Bool, true, false, cond, eqb, List, [], ◌∷◌, length, get_or, drop, sym, refl, ap, ◌∙◌, zero-add, arith, length-drop}
use Rattle.std.proofs.lemmas.Bool.{cond-false}
use native.Mathlib.Nat.{zero-min, min-zero, suc-min-suc, le-min}
use Rattle.frames.specs.Frames.{condition_length, book_length}

-- n bytes, then the book behind them
abbrev passing : ℕ → List ℕ → ℕ
passing n bs = n + book_length 0 (drop n bs)

-- a field's bytes are passed over as far as there are any
skipped : (n : ℕ) (bs : List ℕ) → book_length n bs ≡ passing (min (length bs) n) bs
unfolding book_length
skipped zero [] = refl
skipped (suc n) [] = sym (ap (λ m. passing m []) (zero-min (suc n)))
skipped zero (b ∷ bs) = sym (ap (λ m. passing m (b ∷ bs)) (min-zero (suc (length bs))) ∙ zero-add (book_length 0 (b ∷ bs)))
skipped (suc n) (b ∷ bs) =
    let m = min (length bs) n in
    let s : suc (m + book_length 0 (drop m bs)) ≡ suc m + book_length 0 (drop m bs) = omega arith in
    ap suc (skipped n bs) ∙ s ∙ sym (ap (λ k. passing k (b ∷ bs)) (suc-min-suc (length bs) n))

-- the first field, and the book behind it
pub first_passed : (bs : List ℕ) → book_length 0 bs ≡ passing (condition_length bs) bs
unfolding book_length
first_passed [] = refl
first_passed (b ∷ bs) = go (eqb b 0xC1) refl
  where
    go : (t : Bool) → eqb b 0xC1 ≡ t → book_length 0 (b ∷ bs) ≡ passing (cond t (min (length (b ∷ bs)) (3 + (get_or bs 0 0 * 256 + get_or bs 1 0))) 0) (b ∷ bs)
    go true e =
        let n = get_or bs 0 0 * 256 + get_or bs 1 0 in
        let m = min (length bs) (2 + n) in
        let three : 3 + n ≡ suc (2 + n) = omega arith in
        let s : suc (m + book_length 0 (drop m bs)) ≡ suc m + book_length 0 (drop m bs) = omega arith in
        let k : min (suc (length bs)) (3 + n) ≡ suc m = ap (min (suc (length bs))) three ∙ suc-min-suc (length bs) (2 + n) in
        ap (λ (u : Bool). cond u (suc (book_length (2 + n) bs)) 0) e ∙ ap suc (skipped (2 + n) bs) ∙ s ∙ sym (ap (λ j. passing j (b ∷ bs)) k)
    go false e = sym (zero-add (book_length 0 (b ∷ bs)))

pub none_there : (bs : List ℕ) → condition_length bs ≡ 0 → book_length 0 bs ≡ 0
unfolding book_length
none_there [] z = refl
none_there (b ∷ bs) z = go (eqb b 0xC1) z
  where
    go : (t : Bool) → cond t (min (suc (length bs)) (3 + (get_or bs 0 0 * 256 + get_or bs 1 0))) 0 ≡ 0 → cond t (suc (book_length (2 + (get_or bs 0 0 * 256 + get_or bs 1 0)) bs)) 0 ≡ 0
    go true e =
        let n = get_or bs 0 0 * 256 + get_or bs 1 0 in
        let l : 1 ≤ min (suc (length bs)) (3 + n) = le-min (omega arith) (omega arith) in
        absurd (omega arith)
    go false e = refl

module _ (bs rest : List ℕ) (before : (length bs - length rest) + book_length 0 rest ≡ book_length 0 bs) where
  -- one field more
  pub passed : (size : ℕ) → size ≡ condition_length rest → size ≤ length rest → length rest ≤ length bs
      → ((length bs - length (drop size rest)) + book_length 0 (drop size rest) ≡ book_length 0 bs) × (length (drop size rest) ≤ length bs)
  passed size e w h =
      let f : book_length 0 rest ≡ size + book_length 0 (drop size rest) = first_passed rest ∙ ap (λ n. passing n rest) (sym e) in
      let d : length (drop size rest) ≡ length rest - size = length-drop size rest in
      (omega arith, omega arith)

  -- no field more
  pub over : condition_length rest ≡ 0 → length bs - length rest ≡ book_length 0 bs
  over z =
      let f : book_length 0 rest ≡ 0 = none_there rest z in
      omega arith

-- where no C1 stands at the front
pub none_at_end : (bs : List ℕ) → length bs < 1 → condition_length bs ≡ 0
none_at_end [] h = refl
none_at_end (b ∷ bs) h = absurd (omega arith)

pub other_there : (bs : List ℕ) → eqb (get_or bs 0 0) 0xC1 ≡ false → condition_length bs ≡ 0
other_there bs e = cond-false (eqb (get_or bs 0 0) 0xC1) (min (length bs) (3 + (get_or bs 1 0 * 256 + get_or bs 2 0))) 0 e
