-- Grants by place, and a list of places as a chain of grants.
use Rattle.std.proofs.Common.{◌≡◌, ℕ, zero, suc, ◌+◌, ◌<◌, ◌≤◌, Bool, true, false, leb, ltb, ◌⊎◌, List, [], ◌∷◌, ◌++◌, map, reverse, length, get_or, sym, refl, ap, ◌∙◌, subst, inl, inr, ⊎_elim, add-one, arith}
use mathlib.Core.List.{reverse-cons}
use Rattle.std.specs.List.{AllByRecursion, IsAllAdjacentAnswer}
use Rattle.std.proofs.lemmas.List.{append-nil, append_assoc}
use Rattle.std.proofs.lemmas.Bool.{and_parts, and_from, leb-true, le-leb, ltb-true, ltb-false, cases_Bool}
use Rattle.grants.specs.declared.Grant.{Grant}
use Rattle.grants.specs.Blank.{blank}
use Rattle.places.specs.Sets.{member}
use Rattle.paths.specs.Chains.{NotAfter}
use Rattle.paths.specs.declared.links.Link.{Link}
use Rattle.chains.specs.Lists.{In}
use Rattle.chains.specs.Order.{Lower, Rising}
use Rattle.numbered.specs.Rows.{rises_from}
use Rattle.search.specs.Records.{at, number_of, is_record}

pub at_in : (r : List Grant) (i : ℕ) → i < length r → In (at r i) r
at_in [] i lt = absurd (omega arith)
at_in (g ∷ r) zero lt = inl refl
at_in (g ∷ r) (suc i) lt = inr (at_in r i (omega arith))

pub in_at : (r : List Grant) (g : Grant) → In g r → (i : ℕ) × (i < length r) × (at r i ≡ g)
in_at [] g h = absurd h
in_at (a ∷ r) g (inl e) = (0, omega arith, e)
in_at (a ∷ r) g (inr h) = let x = in_at r g h in (suc x.0, omega (arith, x.1), x.2)

-- the numbers rise from place to place
raise : (m n : ℕ) → m ≤ n → (xs : List Grant) → AllByRecursion (λ (k : Grant). n ≤ k.number) xs → AllByRecursion (λ (k : Grant). m ≤ k.number) xs
raise m n le [] a = tt
raise m n le (g ∷ xs) a = (omega (arith, a.0), raise m n le xs a.1)

least : (n : ℕ) (r : List Grant) → rises_from number_of n r ≡ true → AllByRecursion (λ (g : Grant). n ≤ g.number) r
least n [] e = tt
least n (g ∷ r) e =
    let p = and_parts (leb n g.number) (rises_from number_of (suc g.number) r) e in
    let low : n ≤ g.number = leb-true n g.number p.0 in
    (low, raise n (suc g.number) (omega arith) r (least (suc g.number) r p.1))

rising : (n : ℕ) (r : List Grant) → rises_from number_of n r ≡ true → Rising r
rising n [] e = tt
rising n (g ∷ r) e =
    let p = and_parts (leb n g.number) (rises_from number_of (suc g.number) r) e in
    (least (suc g.number) r p.1, rising (suc g.number) r p.1)

all_at : (P : Grant → Type 0) (r : List Grant) (i : ℕ) → AllByRecursion P r → i < length r → P (at r i)
all_at P [] i a lt = absurd (omega arith)
all_at P (g ∷ r) zero a lt = a.0
all_at P (g ∷ r) (suc i) a lt = all_at P r i a.1 (omega arith)

rises_at : (r : List Grant) → Rising r → (i j : ℕ) → i < j → j < length r → (at r i).number < (at r j).number
rises_at [] up i j lt low = absurd (omega arith)
rises_at (g ∷ r) up i zero lt low = absurd (omega arith)
rises_at (g ∷ r) up zero (suc j) lt low = all_at (λ (k : Grant). g.number < k.number) r j up.0 (omega arith)
rises_at (g ∷ r) up (suc i) (suc j) lt low = rises_at r up.1 i j (omega arith) (omega arith)

module _ (r : List Grant) where
  -- the chain c, with the grants at the places w behind it, one after the other
  abbrev pub onto : List ℕ → List Grant → List Grant
  onto [] c = c
  onto (i ∷ w) c = onto w (at r i ∷ c)

  pub onto_push : (w : List ℕ) (i : ℕ) (c : List Grant) → onto (w ++ (i ∷ [])) c ≡ at r i ∷ onto w c
  onto_push [] i c = refl
  onto_push (k ∷ w) i c = onto_push w i (at r k ∷ c)

  pub onto_length : (w : List ℕ) (c : List Grant) → length (onto w c) ≡ length w + length c
  onto_length [] c = omega arith
  onto_length (i ∷ w) c = onto_length w (at r i ∷ c) ∙ omega arith

  pub onto_all : (P : Grant → Type 0) (w : List ℕ) (c : List Grant) → AllByRecursion P (onto w c) → AllByRecursion (λ i. P (at r i)) w × AllByRecursion P c
  onto_all P [] c a = (tt, a)
  onto_all P (i ∷ w) c a = let x = onto_all P w (at r i ∷ c) a in ((x.1.0, x.0), x.1.1)

  -- the numbers of such a chain, the oldest first
  pub onto_numbers : (w : List ℕ) (c : List Grant)
      → reverse (map (λ (g : Grant). g.number) (onto w c)) ≡ reverse (map (λ (g : Grant). g.number) c) ++ map (λ i. (at r i).number) w
  onto_numbers [] c = sym (append-nil (reverse (map (λ (g : Grant). g.number) c)))
  onto_numbers (i ∷ w) c =
      onto_numbers w (at r i ∷ c)
      ∙ ap (λ xs. xs ++ map (λ i. (at r i).number) w) (reverse-cons (at r i).number (map (λ (g : Grant). g.number) c))
      ∙ append_assoc (reverse (map (λ (g : Grant). g.number) c)) ((at r i).number ∷ []) (map (λ i. (at r i).number) w)

  -- the order of places is the order of numbers
  lower_on : (w q : List ℕ) (c d : List Grant) → length w ≡ length q → Lower c d → Lower (onto w c) (onto q d)
  lower_on [] [] c d e l = l
  lower_on [] (j ∷ q) c d e l = absurd (omega arith)
  lower_on (i ∷ w) [] c d e l = absurd (omega arith)
  lower_on (i ∷ w) (j ∷ q) c d e l = lower_on w q (at r i ∷ c) (at r j ∷ d) (omega arith) (inl l)

  pub not_after : Rising r → (w q : List ℕ) (c : List Grant) → length w ≡ length q → AllByRecursion (λ i. i < length r) q → NotAfter w q → (onto w c ≡ onto q c) ⊎ Lower (onto w c) (onto q c)
  not_after up [] [] c e low n = inl refl
  not_after up [] (j ∷ q) c e low n = absurd (omega arith)
  not_after up (i ∷ w) [] c e low n = absurd n
  not_after up (i ∷ w) (j ∷ q) c e low (inl lt) = inr (lower_on w q (at r i ∷ c) (at r j ∷ c) (omega arith) (inr (refl, rises_at r up i j lt low.0)))
  not_after up (i ∷ w) (j ∷ q) c e low (inr n) =
      subst (λ k. (onto w (at r i ∷ c) ≡ onto q (at r k ∷ c)) ⊎ Lower (onto w (at r i ∷ c)) (onto q (at r k ∷ c))) n.0 (not_after up w q (at r i ∷ c) (omega arith) low.1 n.1)

-- a place that is read with another default
pub at_read : (r : List Grant) (i : ℕ) (d : Grant) → i < length r → get_or r i d ≡ at r i
at_read [] i d lt = absurd (omega arith)
at_read (g ∷ r) zero d lt = refl
at_read (g ∷ r) (suc i) d lt = at_read r i d (omega arith)

-- each number and the next rise, or some do not
rise_from : (n : ℕ) (x : Grant) (xs : List Grant) → n ≤ x.number → ((k : ℕ) (d : Grant) → k < length xs → (get_or (x ∷ xs) k d).number < (get_or xs k d).number)
    → rises_from number_of n (x ∷ xs) ≡ true
rise_from n x [] low up = and_from (leb n x.number) true (le-leb n x.number low) refl
rise_from n x (y ∷ xs) low up =
    and_from (leb n x.number) (rises_from number_of (suc x.number) (y ∷ xs)) (le-leb n x.number low)
    (rise_from (suc x.number) y xs (up 0 x (omega arith)) (λ k d lt. up (suc k) d (omega arith)))

rise_all : (xs : List Grant) → ((k : ℕ) (d : Grant) → k + 1 < length xs → (get_or xs k d).number < (get_or xs (k + 1) d).number) → rises_from number_of 0 xs ≡ true
rise_all [] up = refl
rise_all (x ∷ xs) up =
    rise_from 0 x xs (omega arith) (λ k d lt. subst (λ m. (get_or (x ∷ xs) k d).number < (get_or (x ∷ xs) m d).number) (add-one k) (up k d (omega arith)))

pub rises_is : (xs : List Grant) (r : Bool) → IsAllAdjacentAnswer (λ (x y : Grant) b. b ≡ ltb x.number y.number) xs r → r ≡ rises_from number_of 0 xs
rises_is xs true h = sym (rise_all xs (λ k d lt. ltb-true _ _ (sym (h k d lt))))
rises_is xs false h =
    ⊎_elim
    (λ e. absurd (omega (arith, rises_at xs (rising 0 xs e) h.0 (h.0 + 1) (omega arith) h.1, ltb-false _ _ (sym (h.2 blank)))))
    (λ e. sym e)
    (cases_Bool (rises_from number_of 0 xs))

pub record_rises : (r : List Grant) → is_record r ≡ true → Rising r
record_rises r e = rising 0 r (and_parts (leb (length r) 96) (rises_from number_of 0 r) e).1

abbrev pub no_link : Link
no_link = record { giver = 0; taker = 0; row = 0 }

-- the links of the record up to place m, with the columns as rows
abbrev pub LinkedTo : List Grant → List ℕ → ℕ → List Link → Type 0
LinkedTo r columns m links =
    (k : ℕ) → k < m
    → ((get_or links k no_link).giver ≡ (at r k).grantor) × ((get_or links k no_link).taker ≡ (at r k).grantee)
    × ((j : ℕ) → j < 96 → member (get_or links k no_link).row j ≡ member (get_or columns j 0) k)
