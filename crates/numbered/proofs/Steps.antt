-- What the loops come to: the search for a number, and the rank of one.
use Rattle.std.proofs.Common.{◌≡◌, ℕ, zero, suc, ◌+◌, ◌-◌, ◌<◌, ◌≤◌, true, false, cond, eqb, ltb, List, [], ◌∷◌, length, get_or, take, drop, Some, None, sym, refl, ap, ◌∙◌, arith}
use native.Mathlib.Nat.{sub-zero}
use Rattle.std.proofs.lemmas.List.{drop_more, drop_all}
use Rattle.std.proofs.lemmas.Bool.{cond-true, cond-false}
use Rattle.numbered.specs.Rows.{place_from, before}

-- the rows in use are all that a count names
pub take_used : {X : Type 0} (count : ℕ) (xs : List X) → take (length (take count xs)) xs ≡ take count xs
take_used zero xs = refl
take_used (suc n) [] = refl
take_used (suc n) (x ∷ xs) = ap (λ ys. x ∷ ys) (take_used n xs)

-- the part of the slice that is in use, as the code reads it
pub used_part : {X : Type 0} (count used : ℕ) (xs : List X) → used ≡ length (take count xs) → take (used - 0) xs ≡ take count xs
used_part count used xs e = ap (λ k. take k xs) (sub-zero used ∙ e) ∙ take_used count xs

module _ {X : Type 0} (f : X → ℕ) where
  pub place_here : (n i : ℕ) (xs : List X) (x : X) → i < length xs → x ≡ get_or xs i x → eqb (f x) n ≡ true → place_from f n i (drop i xs) ≡ Some i
  place_here n i xs x h r e =
      ap (place_from f n i) (drop_more xs i x h) ∙ cond-true (eqb (f (get_or xs i x)) n) (Some i) (place_from f n (i + 1) (drop (i + 1) xs)) (ap (λ y. eqb (f y) n) (sym r) ∙ e)

  pub place_more : (n i : ℕ) (xs : List X) (x : X) → i < length xs → x ≡ get_or xs i x → eqb (f x) n ≡ false → place_from f n (i + 1) (drop (i + 1) xs) ≡ place_from f n i (drop i xs)
  place_more n i xs x h r e =
      sym (ap (place_from f n i) (drop_more xs i x h) ∙ cond-false (eqb (f (get_or xs i x)) n) (Some i) (place_from f n (i + 1) (drop (i + 1) xs)) (ap (λ y. eqb (f y) n) (sym r) ∙ e))

  pub place_all : (n i : ℕ) (xs : List X) → length xs ≤ i → place_from f n i (drop i xs) ≡ None
  place_all n i xs h = ap (place_from f n i) (drop_all i xs h)

  pub before_more : (n i : ℕ) (xs : List X) (x : X) → i < length xs → x ≡ get_or xs i x → ltb (f x) n ≡ true → before f n (drop i xs) ≡ suc (before f n (drop (i + 1) xs))
  before_more n i xs x h r e =
      ap (before f n) (drop_more xs i x h) ∙ cond-true (ltb (f (get_or xs i x)) n) (suc (before f n (drop (i + 1) xs))) 0 (ap (λ y. ltb (f y) n) (sym r) ∙ e)

  pub before_here : (n i : ℕ) (xs : List X) (x : X) → i < length xs → x ≡ get_or xs i x → ltb (f x) n ≡ false → before f n (drop i xs) ≡ 0
  before_here n i xs x h r e =
      ap (before f n) (drop_more xs i x h) ∙ cond-false (ltb (f (get_or xs i x)) n) (suc (before f n (drop (i + 1) xs))) 0 (ap (λ y. ltb (f y) n) (sym r) ∙ e)

  pub before_all : (n i : ℕ) (xs : List X) → length xs ≤ i → before f n (drop i xs) ≡ 0
  before_all n i xs h = ap (before f n) (drop_all i xs h)

  pub before_le : (n : ℕ) (xs : List X) → before f n xs ≤ length xs
  before_le n [] = omega arith
  before_le n (y ∷ ys) = elim (ltb (f y) n) as (λ b. cond b (suc (before f n ys)) 0 ≤ suc (length ys)) [ true ↦ omega (arith, before_le n ys) | false ↦ omega arith ]
