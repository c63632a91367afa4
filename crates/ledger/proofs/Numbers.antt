-- Numbers that stay below the next one.
use Rattle.std.proofs.Common.{ℕ, ◌<◌, ◌≤◌, true, ltb, List, [], ◌∷◌, ◌++◌, refl, arith}
use Rattle.std.proofs.lemmas.Bool.{and_parts, and_from, ltb-true, lt-ltb}
use Rattle.numbered.specs.Rows.{all_below, AllBelow}

module _ {X : Type 0} (f : X → ℕ) where
  -- one row more, at the end, below a limit that is not lower
  pub below_end : (n m : ℕ) (xs : List X) (x : X) → AllBelow f n xs → n ≤ m → f x < m → AllBelow f m (xs ++ (x ∷ []))
  below_end n m [] x b h k = and_from (ltb (f x) m) true (lt-ltb (f x) m k) refl
  below_end n m (y ∷ ys) x b h k =
      let both = and_parts (ltb (f y) n) (all_below f n ys) b in
      let low = ltb-true (f y) n both.0 in
      and_from (ltb (f y) m) (all_below f m (ys ++ (x ∷ []))) (lt-ltb (f y) m (omega arith)) (below_end n m ys x both.1 h k)
