-- One place more at the end of a chain over links.
use Rattle.std.proofs.Common.{◌≡◌, ℕ, ◌<◌, true, List, [], ◌∷◌, ◌++◌, sym, refl, ap, ◌∙◌}
use Rattle.std.specs.List.{AllByRecursion}
use Rattle.places.specs.Sets.{member}
use Rattle.paths.specs.Chains.{link, Joins, AllIn, Admitted, NoneOf, Apart, reached}
use Rattle.paths.specs.declared.links.Links.{Links}

pub none_of_push : (x y : ℕ) (xs : List ℕ) → NoneOf x xs → (y ≡ x → ⊥) → NoneOf x (xs ++ (y ∷ []))
none_of_push x y [] n ne = (ne, tt)
none_of_push x y (z ∷ xs) n ne = (n.0, none_of_push x y xs n.1 ne)

pub apart_push : (y : ℕ) (xs : List ℕ) → Apart xs → AllByRecursion (λ x. y ≡ x → ⊥) xs → Apart (xs ++ (y ∷ []))
apart_push y [] a n = (tt, tt)
apart_push y (x ∷ xs) a n = (none_of_push x y xs a.0 n.0, apart_push y xs a.1 n.1)

pub all_in_push : (s i : ℕ) (w : List ℕ) → AllIn s w → member s i ≡ true → AllIn s (w ++ (i ∷ []))
all_in_push s i [] a m = (m, tt)
all_in_push s i (k ∷ w) a m = (a.0, all_in_push s i w a.1 m)

module _ (l : Links) where
  pub joins_push : (p q i : ℕ) (w : List ℕ) → Joins l p w q → i < l.count → (link l i).giver ≡ q → Joins l p (w ++ (i ∷ [])) (link l i).taker
  joins_push p q i [] j lt e = (lt, e ∙ sym j, refl)
  joins_push p q i (k ∷ w) j lt e = (j.0, j.1, joins_push (link l k).taker q i w j.2 lt e)

  pub admitted_push : (i : ℕ) (w : List ℕ) → Admitted l w → AllByRecursion (λ k. member (link l k).row i ≡ true) w → Admitted l (w ++ (i ∷ []))
  admitted_push i [] a m = (tt, tt)
  admitted_push i (k ∷ w) a m = (all_in_push (link l k).row i w a.0 m.0, admitted_push i w a.1 m.1)

  pub reached_push : (i : ℕ) (w : List ℕ) → reached l (w ++ (i ∷ [])) ≡ reached l w ++ ((link l i).taker ∷ [])
  reached_push i [] = refl
  reached_push i (k ∷ w) = ap (λ xs. (link l k).taker ∷ xs) (reached_push i w)

  -- every place of a way that joins is below the count
  pub joins_low : (p q : ℕ) (w : List ℕ) → Joins l p w q → AllByRecursion (λ i. i < l.count) w
  joins_low p q [] j = tt
  joins_low p q (i ∷ w) j = (j.0, joins_low (link l i).taker q w j.2)
