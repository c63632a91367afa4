-- Laws of adding and removing: where the row goes, what the numbers mean then, and that they still rise.
use Rattle.std.proofs.Common.{◌≡◌, ℕ, zero, suc, ◌+◌, ◌<◌, ◌≤◌, Bool, true, false, cond, ◌&&◌, eqb, ltb, leb, List, [], ◌∷◌, ◌++◌, length, get_or, set, is_some, Some, None, Ok, Err, OnErr, Option, Result, sym, refl, ap, ◌∙◌, ⊎_elim, arith}
use Rattle.std.proofs.lemmas.Bool.{ne_eqb, lt-ltb, eqb-true, eqb-false, cases_lt, ltb-true, ltb-false, cases_Bool, cond-true, cond-false, cond_both, and_parts, and_from, leb-true, le-leb}
use Rattle.std.specs.List.{insert, remove}
use Rattle.numbered.specs.Rows.{rises_from, place_from, row_of, put, before, without, all_below, AllBelow}
use Rattle.numbered.specs.Answers.{PutLaws, WithoutLaws, KeptIfNone}

-- `rises_from` as a fact
abbrev pub RisesFrom : {X : Type 0} → (X → ℕ) → ℕ → List X → Type 0
RisesFrom f low [] = Unit {0}
RisesFrom f low (x ∷ xs) = (low ≤ f x) × RisesFrom f (suc (f x)) xs

pub none_some : {A : Type 0} (x : A) → Some x ≡ None → ⊥
none_some x e = let z : ◌≡◌ {A = ℕ} 0 1 = cc in omega arith

pub none_from_test : {A : Type 0} (o : Option A) → is_some o ≡ false → o ≡ None
none_from_test None e = refl
none_from_test (Some x) e = let z : ◌≡◌ {A = ℕ} 0 1 = cc in absurd (omega arith)

-- past a row with another number the first row numbered n is the first of the rest
pub skipped : {A : Type 0} (t : Bool) (here : A) (rest : Option A) → cond t (Some here) rest ≡ None → (t ≡ false) × (rest ≡ None)
skipped true here rest e = absurd (none_some here e)
skipped false here rest e = (refl, e)

some_same : (a b : ℕ) → Some a ≡ Some b → a ≡ b
some_same a b e = cc

-- behind a test that passed, the same test is not asked again
hidden : {A : Type 0} (t : Bool) (a b rest : A) → cond t a rest ≡ cond t a (cond t b rest)
hidden true a b rest = refl
hidden false a b rest = refl

-- two tests of which at most one passes may be made in either order
swapped : {A : Type 0} (a b rest : A) (s t : Bool) → (s ≡ true → t ≡ true → ⊥) → cond s a (cond t b rest) ≡ cond t b (cond s a rest)
swapped a b rest true true never = absurd (never refl refl)
swapped a b rest true false never = refl
swapped a b rest false true never = refl
swapped a b rest false false never = refl

module _ {X : Type 0} (f : X → ℕ) where
  -- the row and its place
  pub row_at : (n k j : ℕ) (xs : List X) (d : X) → place_from f n k xs ≡ Some j
      → (i : ℕ) × (j ≡ k + i) × (row_of f n xs ≡ Some (get_or xs i d)) × (without f n xs ≡ remove xs i)
  row_at n k j [] d e = absurd (none_some j (sym e))
  row_at n k j (y ∷ ys) d e =
      ⊎_elim
      (λ t.
      let same : Some k ≡ Some j = sym (cond-true _ (Some k) (place_from f n (k + 1) ys) t) ∙ e in
      let kj : k ≡ j = cc in
      (0, omega arith, cond-true (eqb (f y) n) (Some y) (row_of f n ys) t, cond-true (eqb (f y) n) ys (y ∷ without f n ys) t))
      (λ u.
      let q = row_at n (k + 1) j ys d (sym (cond-false _ (Some k) (place_from f n (k + 1) ys) u) ∙ e) in
      (suc q.0, omega (arith, q.1), cond-false (eqb (f y) n) (Some y) (row_of f n ys) u ∙ q.2, cond-false (eqb (f y) n) ys (y ∷ without f n ys) u ∙ ap (λ zs. y ∷ zs) q.3))
      (cases_Bool (eqb (f y) n))

  pub row_number : (n : ℕ) (x : X) (xs : List X) → row_of f n xs ≡ Some x → f x ≡ n
  row_number n x [] e = absurd (none_some x (sym e))
  row_number n x (y ∷ ys) e =
      ⊎_elim
      (λ t.
      let same : Some y ≡ Some x = sym (cond-true _ (Some y) (row_of f n ys) t) ∙ e in
      let is : y ≡ x = cc in
      ap f (sym is) ∙ eqb-true (f y) n t)
      (λ u. row_number n x ys (sym (cond-false _ (Some y) (row_of f n ys) u) ∙ e))
      (cases_Bool (eqb (f y) n))

  pub row_none : (n k : ℕ) (xs : List X) → place_from f n k xs ≡ None → row_of f n xs ≡ None
  row_none n k [] e = refl
  row_none n k (y ∷ ys) e =
      let s = skipped (eqb (f y) n) k (place_from f n (k + 1) ys) e in
      cond-false (eqb (f y) n) (Some y) (row_of f n ys) s.0 ∙ row_none n (k + 1) ys s.1

  pub row_test : (n k : ℕ) (xs : List X) → is_some (row_of f n xs) ≡ is_some (place_from f n k xs)
  row_test n k [] = refl
  row_test n k (y ∷ ys) =
      elim (eqb (f y) n) as (λ b. is_some (cond b (Some y) (row_of f n ys)) ≡ is_some (cond b (Some k) (place_from f n (k + 1) ys)))
      [ true ↦ refl | false ↦ row_test n (k + 1) ys ]

  -- where none has the number, none is left out
  pub without_none : (n : ℕ) (xs : List X) → row_of f n xs ≡ None → without f n xs ≡ xs
  without_none n [] e = refl
  without_none n (y ∷ ys) e =
      let s = skipped (eqb (f y) n) y (row_of f n ys) e in
      cond-false (eqb (f y) n) ys (y ∷ without f n ys) s.0 ∙ ap (λ zs. y ∷ zs) (without_none n ys s.1)

  -- x goes in where the rows below it end
  pub put_is : (x : X) (xs : List X) → put f x xs ≡ insert xs (before f (f x) xs) x
  put_is x [] = refl
  put_is x (y ∷ ys) =
      elim (ltb (f y) (f x)) as (λ b. cond b (y ∷ put f x ys) (x ∷ y ∷ ys) ≡ insert (y ∷ ys) (cond b (suc (before f (f x) ys)) 0) x)
      [ true ↦ ap (λ zs. y ∷ zs) (put_is x ys) | false ↦ refl ]

  pub rises_parts : (low : ℕ) (xs : List X) → rises_from f low xs ≡ true → RisesFrom f low xs
  rises_parts low [] e = tt
  rises_parts low (x ∷ xs) e =
      let both = and_parts (leb low (f x)) (rises_from f (suc (f x)) xs) e in
      (leb-true low (f x) both.0, rises_parts (suc (f x)) xs both.1)

  pub rises_whole : (low : ℕ) (xs : List X) → RisesFrom f low xs → rises_from f low xs ≡ true
  rises_whole low [] r = refl
  rises_whole low (x ∷ xs) r = and_from _ _ (le-leb low (f x) r.0) (rises_whole (suc (f x)) xs r.1)

  pub rises_lower : (low n : ℕ) (xs : List X) → low ≤ n → RisesFrom f n xs → RisesFrom f low xs
  rises_lower low n [] h r = tt
  rises_lower low n (x ∷ xs) h r = (omega arith, r.1)

  rises_put : (low : ℕ) (x : X) (xs : List X) → RisesFrom f low xs → low ≤ f x → row_of f (f x) xs ≡ None → RisesFrom f low (put f x xs)
  rises_put low x [] r h e = (h, tt)
  rises_put low x (y ∷ ys) r h e =
      let s = skipped (eqb (f y) (f x)) y (row_of f (f x) ys) e in
      let ne : f y ≡ f x → ⊥ = eqb-false (f y) (f x) s.0 in
      cond_both (ltb (f y) (f x)) (y ∷ put f x ys) (x ∷ y ∷ ys) (RisesFrom f low)
      (λ b. (r.0, rises_put (suc (f y)) x ys r.1 (omega (arith, ltb-true (f y) (f x) b)) s.1))
      (λ b. (h, (omega (arith, ltb-false (f y) (f x) b, ne), r.1)))

  rises_without : (low n : ℕ) (xs : List X) → RisesFrom f low xs → RisesFrom f low (without f n xs)
  rises_without low n [] r = tt
  rises_without low n (y ∷ ys) r =
      elim (eqb (f y) n) as (λ b. RisesFrom f low (cond b ys (y ∷ without f n ys)))
      [ true ↦ rises_lower low (suc (f y)) ys (omega arith) r.1 | false ↦ (r.0, rises_without (suc (f y)) n ys r.1) ]

  -- numbers that start above n have none that is n
  pub none_below : (low n : ℕ) (xs : List X) → RisesFrom f low xs → n < low → row_of f n xs ≡ None
  none_below low n [] r h = refl
  none_below low n (y ∷ ys) r h =
      cond-false (eqb (f y) n) (Some y) (row_of f n ys) (ne_eqb (f y) n (λ e. omega arith)) ∙ none_below (suc (f y)) n ys r.1 (omega arith)

  -- numbers that all lie below a bound have none that is the bound or more
  pub none_above : (n top : ℕ) (xs : List X) → AllBelow f top xs → top ≤ n → row_of f n xs ≡ None
  none_above n top [] h le = refl
  none_above n top (y ∷ ys) h le =
      let both = and_parts (ltb (f y) top) (all_below f top ys) h in
      cond-false (eqb (f y) n) (Some y) (row_of f n ys) (ne_eqb (f y) n (λ e. omega (arith, ltb-true (f y) top both.0))) ∙ none_above n top ys both.1 le

  means_put : (x : X) (m : ℕ) (xs : List X) → row_of f m (put f x xs) ≡ cond (eqb (f x) m) (Some x) (row_of f m xs)
  means_put x m [] = refl
  means_put x m (y ∷ ys) =
      cond_both (ltb (f y) (f x)) (y ∷ put f x ys) (x ∷ y ∷ ys) (λ zs. row_of f m zs ≡ cond (eqb (f x) m) (Some x) (row_of f m (y ∷ ys)))
      (λ b.
      ap (cond (eqb (f y) m) (Some y)) (means_put x m ys)
      ∙ swapped (Some y) (Some x) (row_of f m ys) (eqb (f y) m) (eqb (f x) m) (λ p q. omega (arith, ltb-true (f y) (f x) b, eqb-true (f y) m p, eqb-true (f x) m q)))
      (λ b. refl)

  put_last : (x : X) (xs : List X) → AllBelow f (f x) xs → put f x xs ≡ xs ++ (x ∷ [])
  put_last x [] h = refl
  put_last x (y ∷ ys) h =
      let both = and_parts (ltb (f y) (f x)) (all_below f (f x) ys) h in
      cond-true (ltb (f y) (f x)) _ _ both.0 ∙ ap (λ zs. y ∷ zs) (put_last x ys both.1)

  pub put_laws : (x : X) (xs : List X) → PutLaws f x xs
  put_laws x xs =
      record {
        means = λ m. means_put x m xs;
        rises = λ r free. rises_whole 0 _ (rises_put 0 x xs (rises_parts 0 xs r) (omega arith) free);
        last = put_last x xs;
      }

  pub below_put : (n : ℕ) (x : X) (xs : List X) → AllBelow f n xs → f x < n → AllBelow f n (put f x xs)
  below_put n x [] h lt = and_from _ _ (lt-ltb (f x) n lt) refl
  below_put n x (y ∷ ys) h lt =
      let both = and_parts (ltb (f y) n) (all_below f n ys) h in
      cond_both (ltb (f y) (f x)) (y ∷ put f x ys) (x ∷ y ∷ ys) (AllBelow f n)
      (λ b. and_from _ _ both.0 (below_put n x ys both.1 lt))
      (λ b. and_from _ _ (lt-ltb (f x) n lt) h)

  pub below_without : (n m : ℕ) (xs : List X) → AllBelow f n xs → AllBelow f n (without f m xs)
  below_without n m [] h = refl
  below_without n m (y ∷ ys) h =
      let both = and_parts (ltb (f y) n) (all_below f n ys) h in
      cond_both (eqb (f y) m) ys (y ∷ without f m ys) (AllBelow f n) (λ t. both.1) (λ u. and_from _ _ both.0 (below_without n m ys both.1))

  few : (low top : ℕ) (xs : List X) → RisesFrom f low xs → AllBelow f top xs → low ≤ top → low + length xs ≤ top
  few low top [] r h le = omega arith
  few low top (y ∷ ys) r h le =
      let both = and_parts (ltb (f y) top) (all_below f top ys) h in
      omega (arith, r.0, few (suc (f y)) top ys r.1 both.1 (ltb-true (f y) top both.0))

  -- numbers that rise from low on, all below top and none of them n, leave a place free
  pub place_left : (low top n : ℕ) (xs : List X) → RisesFrom f low xs → AllBelow f top xs → low ≤ n → n < top → row_of f n xs ≡ None → low + length xs < top
  place_left low top n [] r h le lt e = omega arith
  place_left low top n (y ∷ ys) r h le lt e =
      let both = and_parts (ltb (f y) top) (all_below f top ys) h in
      let s = skipped (eqb (f y) n) y (row_of f n ys) e in
      let ne : f y ≡ n → ⊥ = eqb-false (f y) n s.0 in
      ⊎_elim
      (λ less. omega (arith, r.0, place_left (suc (f y)) top n ys r.1 both.1 less lt s.1))
      (λ more. omega (arith, r.0, ne, few (suc (f y)) top ys r.1 both.1 (ltb-true (f y) top both.0)))
      (cases_lt (f y) n)

  gone_without : (low n : ℕ) (xs : List X) → RisesFrom f low xs → row_of f n (without f n xs) ≡ None
  gone_without low n [] r = refl
  gone_without low n (y ∷ ys) r =
      cond_both (eqb (f y) n) ys (y ∷ without f n ys) (λ zs. row_of f n zs ≡ None)
      (λ t. none_below (suc (f y)) n ys r.1 (omega (arith, eqb-true (f y) n t)))
      (λ u. cond-false (eqb (f y) n) (Some y) (row_of f n (without f n ys)) u ∙ gone_without (suc (f y)) n ys r.1)

  others_without : (n m : ℕ) (xs : List X) → (n ≡ m → ⊥) → row_of f m (without f n xs) ≡ row_of f m xs
  others_without n m [] ne = refl
  others_without n m (y ∷ ys) ne =
      cond_both (eqb (f y) n) ys (y ∷ without f n ys) (λ zs. row_of f m zs ≡ row_of f m (y ∷ ys))
      (λ t. sym (cond-false (eqb (f y) m) (Some y) (row_of f m ys) (ne_eqb (f y) m (λ e. ne (sym (eqb-true (f y) n t) ∙ e)))))
      (λ u. ap (cond (eqb (f y) m) (Some y)) (others_without n m ys ne))

  pub without_laws : (n : ℕ) (xs : List X) → WithoutLaws f n xs
  without_laws n xs =
      record {
        gone = λ r. gone_without 0 n xs (rises_parts 0 xs r);
        others = λ m ne. others_without n m xs ne;
        rises = λ r. rises_whole 0 _ (rises_without 0 n xs (rises_parts 0 xs r));
      }

  -- one row changed in place, its number kept: the numbers rise and lie below a bound as they did
  pub rises_set : (low i : ℕ) (x d : X) (xs : List X) → f x ≡ f (get_or xs i d) → rises_from f low (set xs i x) ≡ rises_from f low xs
  rises_set low i x d [] e = refl
  rises_set low zero x d (y ∷ ys) e = λ j. leb low (e j) && rises_from f (suc (e j)) ys
  rises_set low (suc i) x d (y ∷ ys) e = ap (λ b. leb low (f y) && b) (rises_set (suc (f y)) i x d ys e)

  pub below_set : (n i : ℕ) (x d : X) (xs : List X) → f x ≡ f (get_or xs i d) → all_below f n (set xs i x) ≡ all_below f n xs
  below_set n i x d [] e = refl
  below_set n zero x d (y ∷ ys) e = λ j. ltb (e j) n && all_below f n ys
  below_set n (suc i) x d (y ∷ ys) e = ap (λ b. ltb (f y) n && b) (below_set n i x d ys e)

  -- and its number now means the new row, every other number what it meant
  pub means_set : (n k i j m : ℕ) (x : X) (xs : List X) → place_from f n k xs ≡ Some j → j ≡ k + i → f x ≡ n
      → row_of f m (set xs i x) ≡ cond (eqb n m) (Some x) (row_of f m xs)
  means_set n k i j m x [] e at same = absurd (none_some j (sym e))
  means_set n k zero j m x (y ∷ ys) e at same =
      ⊎_elim
      (λ t.
      (λ p. cond (eqb (same p) m) (Some x) (row_of f m ys))
      ∙ hidden (eqb n m) (Some x) (Some y) (row_of f m ys)
      ∙ (λ p. cond (eqb n m) (Some x) (cond (eqb (sym (eqb-true (f y) n t) p) m) (Some y) (row_of f m ys))))
      (λ u. absurd (omega (arith, at, (row_at n (k + 1) j ys x (sym (cond-false _ (Some k) (place_from f n (k + 1) ys) u) ∙ e)).1)))
      (cases_Bool (eqb (f y) n))
  means_set n k (suc i) j m x (y ∷ ys) e at same =
      ⊎_elim
      (λ t. absurd (omega (arith, at, some_same k j (sym (cond-true _ (Some k) (place_from f n (k + 1) ys) t) ∙ e))))
      (λ u.
      ap (cond (eqb (f y) m) (Some y)) (means_set n (k + 1) i j m x ys (sym (cond-false _ (Some k) (place_from f n (k + 1) ys) u) ∙ e) (omega arith) same)
      ∙ swapped (Some y) (Some x) (row_of f m ys) (eqb (f y) m) (eqb n m) (λ p q. eqb-false (f y) n u (eqb-true (f y) m p ∙ sym (eqb-true n m q))))
      (cases_Bool (eqb (f y) n))

-- what a refusal keeps, in other words
pub kept_unless_added : {E : Type 0} (r : Result (Unit {0}) E) {P Q : Type 0} → (P → Q) → OnErr r P → OnErr r Q
kept_unless_added (Ok u) step k = tt
kept_unless_added (Err e) step k = step k

pub kept_if_none : {X : Type 0} (o : Option X) {P Q : Type 0} → (P → Q) → KeptIfNone o P → KeptIfNone o Q
kept_if_none None step k = step k
kept_if_none (Some x) step k = tt
