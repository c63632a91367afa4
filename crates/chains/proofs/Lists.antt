-- Laws of the words on lists.
use Rattle.std.proofs.Common.{◌≡◌, ℕ, Bool, true, false, cond, ◌⊎◌, List, [], ◌∷◌, ◌++◌, map, Some, None, Decides, sym, refl, ap, ◌∙◌, subst, inl, inr, ⊎_elim, arith}
use Rattle.std.specs.List.{AllByRecursion}
use Rattle.std.proofs.lemmas.Bool.{true≢false, both_ways, and_parts, and_from, or_left, or_right, or_cases}
use Rattle.chains.specs.Lists.{In, Sorted, every, any, keep_if, first_of}

module _ {X : Type 0} where
  pub in_append : (x : X) (xs ys : List X) → In x (xs ++ ys) → In x xs ⊎ In x ys
  in_append x [] ys h = inr h
  in_append x (a ∷ xs) ys (inl e) = inl (inl e)
  in_append x (a ∷ xs) ys (inr h) = ⊎_elim (λ k. inl (inr k)) (λ k. inr k) (in_append x xs ys h)

  pub in_left : (x : X) (xs ys : List X) → In x xs → In x (xs ++ ys)
  in_left x [] ys h = absurd h
  in_left x (a ∷ xs) ys (inl e) = inl e
  in_left x (a ∷ xs) ys (inr h) = inr (in_left x xs ys h)

  pub in_right : (x : X) (xs ys : List X) → In x ys → In x (xs ++ ys)
  in_right x [] ys h = h
  in_right x (a ∷ xs) ys h = inr (in_right x xs ys h)

  pub all_in : (P : X → Type 0) (xs : List X) → AllByRecursion P xs → (x : X) → In x xs → P x
  all_in P [] h x i = absurd i
  all_in P (a ∷ xs) h x (inl e) = subst P e h.0
  all_in P (a ∷ xs) h x (inr i) = all_in P xs h.1 x i

  pub in_all : (P : X → Type 0) (xs : List X) → ((x : X) → In x xs → P x) → AllByRecursion P xs
  in_all P [] f = tt
  in_all P (a ∷ xs) f = (f a (inl refl), in_all P xs (λ x i. f x (inr i)))

  pub keep_in : (t : X → Bool) (xs : List X) (x : X) → In x (keep_if t xs) → In x xs × (t x ≡ true)
  keep_in t [] x h = absurd h
  keep_in t (a ∷ xs) x h = go (keep_in t xs x) (t a) refl h
    where
      go : (In x (keep_if t xs) → In x xs × (t x ≡ true)) → (b : Bool) → t a ≡ b → In x (cond b (a ∷ keep_if t xs) (keep_if t xs)) → In x (a ∷ xs) × (t x ≡ true)
      go ih true e (inl i) = (inl i, ap t (sym i) ∙ e)
      go ih true e (inr i) = (inr (ih i).0, (ih i).1)
      go ih false e i = (inr (ih i).0, (ih i).1)

  pub in_keep : (t : X → Bool) (xs : List X) (x : X) → In x xs → t x ≡ true → In x (keep_if t xs)
  in_keep t [] x i e = absurd i
  in_keep t (a ∷ xs) x i e = go (λ j. in_keep t xs x j e) (t a) refl i
    where
      go : (In x xs → In x (keep_if t xs)) → (b : Bool) → t a ≡ b → In x (a ∷ xs) → In x (cond b (a ∷ keep_if t xs) (keep_if t xs))
      go ih true f (inl i) = inl i
      go ih true f (inr i) = inr (ih i)
      go ih false f (inl i) = absurd (both_ways (t a) f (ap t i ∙ e))
      go ih false f (inr i) = ih i

  pub any_in : (t : X → Bool) (xs : List X) → any t xs ≡ true → (x : X) × In x xs × (t x ≡ true)
  any_in t [] h = absurd (true≢false (sym h))
  any_in t (a ∷ xs) h = ⊎_elim (λ e. (a, inl refl, e)) (λ k. let y = any_in t xs k in (y.0, inr y.1, y.2)) (or_cases (t a) (any t xs) h)

  pub in_any : (t : X → Bool) (xs : List X) (x : X) → In x xs → t x ≡ true → any t xs ≡ true
  in_any t [] x i e = absurd i
  in_any t (a ∷ xs) x (inl i) e = or_left (t a) (any t xs) (ap t i ∙ e)
  in_any t (a ∷ xs) x (inr i) e = or_right (t a) (any t xs) (in_any t xs x i e)

  pub decides_all : (t : X → Bool) (P : X → Type 0) → ((x : X) → Decides (t x) (P x)) → (xs : List X) → Decides (every t xs) (AllByRecursion P xs)
  decides_all t P d [] = (λ _. tt, λ _. refl)
  decides_all t P d (a ∷ xs) = (λ h. let p = and_parts (t a) (every t xs) h in ((d a).0 p.0, (decides_all t P d xs).0 p.1), λ h. and_from (t a) (every t xs) ((d a).1 h.0) ((decides_all t P d xs).1 h.1))

  -- what `first_of` answers
  pub find_none : (t : X → Bool) (xs : List X) → first_of t xs ≡ None → (x : X) → In x xs → t x ≡ true → ⊥
  find_none t [] h x i e = i
  find_none t (a ∷ xs) h x i e = go (λ k j. find_none t xs k x j e) (t a) refl h i
    where
      go : (first_of t xs ≡ None → In x xs → ⊥) → (b : Bool) → t a ≡ b → cond b (Some a) (first_of t xs) ≡ None → In x (a ∷ xs) → ⊥
      go ih true f k i = let z : ◌≡◌ {A = ℕ} 0 1 = cc k in omega (arith, z)
      go ih false f k (inl i) = both_ways (t a) f (ap t i ∙ e)
      go ih false f k (inr i) = ih k i

  -- the found one passes, and comes before each other that passes
  pub find_some : (R : X → X → Type 0) (t : X → Bool) (xs : List X) (x : X) → Sorted R xs → first_of t xs ≡ Some x → In x xs × (t x ≡ true) × ((y : X) → In y xs → t y ≡ true → (x ≡ y) ⊎ R x y)
  find_some R t [] x s h = let z : ◌≡◌ {A = ℕ} 0 1 = cc h in absurd (omega (arith, z))
  find_some R t (a ∷ xs) x s h = go (find_some R t xs x s.1) (t a) refl h
    where
      go : (first_of t xs ≡ Some x → In x xs × (t x ≡ true) × ((y : X) → In y xs → t y ≡ true → (x ≡ y) ⊎ R x y)) → (b : Bool) → t a ≡ b → cond b (Some a) (first_of t xs) ≡ Some x → In x (a ∷ xs) × (t x ≡ true) × ((y : X) → In y (a ∷ xs) → t y ≡ true → (x ≡ y) ⊎ R x y)
      go below true f k =
          let same : a ≡ x = cc k in
          (inl same, ap t (sym same) ∙ f, λ y i e. ⊎_elim (λ j. inl (sym same ∙ j)) (λ j. inr (subst (λ z. R z y) same (all_in (R a) xs s.0 y j))) i)
      go below false f k =
          let ih = below k in
          (inr ih.0, ih.1, λ y i e. ⊎_elim (λ j. absurd (both_ways (t a) f (ap t j ∙ e))) (λ j. ih.2 y j e) i)

  pub sorted_append : (R : X → X → Type 0) (xs ys : List X) → Sorted R xs → Sorted R ys → ((x y : X) → In x xs → In y ys → R x y) → Sorted R (xs ++ ys)
  sorted_append R [] ys a b f = b
  sorted_append R (x ∷ xs) ys a b f = (in_all (R x) (xs ++ ys) (λ y i. ⊎_elim (λ j. all_in (R x) xs a.0 y j) (λ j. f x y (inl refl) j) (in_append y xs ys i)), sorted_append R xs ys a.1 b (λ u v i j. f u v (inr i) j))

  pub sorted_keep : (R : X → X → Type 0) (t : X → Bool) (xs : List X) → Sorted R xs → Sorted R (keep_if t xs)
  sorted_keep R t [] s = tt
  sorted_keep R t (a ∷ xs) s = go (sorted_keep R t xs s.1) (t a)
    where
      go : Sorted R (keep_if t xs) → (b : Bool) → Sorted R (cond b (a ∷ keep_if t xs) (keep_if t xs))
      go ih true = (in_all (R a) (keep_if t xs) (λ y i. all_in (R a) xs s.0 y (keep_in t xs y i).0), ih)
      go ih false = ih

module _ {X Y : Type 0} where
  pub map_in : (f : X → Y) (xs : List X) (y : Y) → In y (map f xs) → (x : X) × In x xs × (f x ≡ y)
  map_in f [] y h = absurd h
  map_in f (a ∷ xs) y (inl e) = (a, inl refl, e)
  map_in f (a ∷ xs) y (inr h) = let k = map_in f xs y h in (k.0, inr k.1, k.2)

  pub in_map : (f : X → Y) (xs : List X) (x : X) → In x xs → In (f x) (map f xs)
  in_map f [] x h = absurd h
  in_map f (a ∷ xs) x (inl e) = inl (ap f e)
  in_map f (a ∷ xs) x (inr h) = inr (in_map f xs x h)

  pub sorted_map : (R : X → X → Type 0) (S : Y → Y → Type 0) (f : X → Y) → ((x y : X) → R x y → S (f x) (f y)) → (xs : List X) → Sorted R xs → Sorted S (map f xs)
  sorted_map R S f g [] s = tt
  sorted_map R S f g (a ∷ xs) s = (in_all (S (f a)) (map f xs) (λ y i. let k = map_in f xs y i in subst (S (f a)) k.2 (g a k.0 (all_in (R a) xs s.0 k.0 k.1))), sorted_map R S f g xs s.1)
