-- Rows without the first of a number, and lists of which some are kept.
use Rattle.std.proofs.Common.{◌≡◌, ℕ, suc, ◌<◌, ◌≤◌, Bool, true, false, cond, eqb, List, [], ◌∷◌, length, Some, sym, refl, ap, ◌∙◌, inl, inr, arith}
use Rattle.std.specs.List.{AllByRecursion}
use Rattle.std.proofs.lemmas.Bool.{eqb-true}
use Rattle.numbered.specs.Rows.{row_of, without}
use Rattle.chains.specs.Lists.{In, Sorted, keep_if}
use Rattle.chains.proofs.Lists.{all_in, in_all, keep_in}

pub all_keep : {X : Type 0} (P : X → Type 0) (t : X → Bool) (xs : List X) → AllByRecursion P xs → AllByRecursion P (keep_if t xs)
all_keep P t xs a = in_all P (keep_if t xs) (λ x i. all_in P xs a x (keep_in t xs x i).0)

pub keep_short : {X : Type 0} (t : X → Bool) (xs : List X) → length (keep_if t xs) ≤ length xs
keep_short t [] = omega arith
keep_short t (x ∷ xs) = go (keep_short t xs) (t x)
  where
    go : length (keep_if t xs) ≤ length xs → (b : Bool) → length (cond b (x ∷ keep_if t xs) (keep_if t xs)) ≤ suc (length xs)
    go ih true = omega arith
    go ih false = omega arith

module _ {X : Type 0} (f : X → ℕ) (n : ℕ) where
  pub without_in : (xs : List X) (x : X) → In x (without f n xs) → In x xs
  without_in [] x i = absurd i
  without_in (y ∷ ys) x i = go (without_in ys x) (eqb (f y) n) i
    where
      go : (In x (without f n ys) → In x ys) → (b : Bool) → In x (cond b ys (y ∷ without f n ys)) → In x (y ∷ ys)
      go ih true i = inr i
      go ih false (inl e) = inl e
      go ih false (inr i) = inr (ih i)

  pub in_without : (xs : List X) (x : X) → In x xs → (f x ≡ n → ⊥) → In x (without f n xs)
  in_without [] x i ne = absurd i
  in_without (y ∷ ys) x i ne = go (λ j. in_without ys x j ne) (eqb (f y) n) refl i
    where
      go : (In x ys → In x (without f n ys)) → (b : Bool) → eqb (f y) n ≡ b → In x (y ∷ ys) → In x (cond b ys (y ∷ without f n ys))
      go ih true e (inl i) = absurd (ne (ap f (sym i) ∙ eqb-true (f y) n e))
      go ih true e (inr i) = i
      go ih false e (inl i) = inl i
      go ih false e (inr i) = inr (ih i)

  pub all_without : (P : X → Type 0) (xs : List X) → AllByRecursion P xs → AllByRecursion P (without f n xs)
  all_without P xs a = in_all P (without f n xs) (λ x i. all_in P xs a x (without_in xs x i))

  pub sorted_without : (R : X → X → Type 0) (xs : List X) → Sorted R xs → Sorted R (without f n xs)
  sorted_without R [] s = tt
  sorted_without R (y ∷ ys) s = go (sorted_without R ys s.1) (eqb (f y) n)
    where
      go : Sorted R (without f n ys) → (b : Bool) → Sorted R (cond b ys (y ∷ without f n ys))
      go ih true = s.1
      go ih false = (all_without (R y) ys s.0, ih)

  pub row_in : (xs : List X) (x : X) → row_of f n xs ≡ Some x → In x xs × (f x ≡ n)
  row_in [] x e = let z : ◌≡◌ {A = ℕ} 0 1 = cc e in absurd (omega (arith, z))
  row_in (y ∷ ys) x e = go (row_in ys x) (eqb (f y) n) refl e
    where
      go : (row_of f n ys ≡ Some x → In x ys × (f x ≡ n)) → (b : Bool) → eqb (f y) n ≡ b → cond b (Some y) (row_of f n ys) ≡ Some x → In x (y ∷ ys) × (f x ≡ n)
      go ih true t e = let same : y ≡ x = cc e in (inl same, ap f (sym same) ∙ eqb-true (f y) n t)
      go ih false t e = let k = ih e in (inr k.0, k.1)

  pub without_short : (xs : List X) → length (without f n xs) ≤ length xs
  without_short [] = omega arith
  without_short (y ∷ ys) = go (without_short ys) (eqb (f y) n)
    where
      go : length (without f n ys) ≤ length ys → (b : Bool) → length (cond b ys (y ∷ without f n ys)) ≤ suc (length ys)
      go ih true = omega arith
      go ih false = omega arith

  pub without_shorter : (xs : List X) (x : X) → row_of f n xs ≡ Some x → length (without f n xs) < length xs
  without_shorter [] x e = let z : ◌≡◌ {A = ℕ} 0 1 = cc e in absurd (omega (arith, z))
  without_shorter (y ∷ ys) x e = go (without_shorter ys x) (eqb (f y) n) e
    where
      go : (row_of f n ys ≡ Some x → length (without f n ys) < length ys) → (b : Bool) → cond b (Some y) (row_of f n ys) ≡ Some x → length (cond b ys (y ∷ without f n ys)) < suc (length ys)
      go ih true e = omega arith
      go ih false e = let k = ih e in omega (arith, k)
