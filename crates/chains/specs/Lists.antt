-- Words on lists.
use Rattle.std.specs.Prelude.{◌≡◌, Bool, cond, ◌⊎◌, List, [], ◌∷◌, Some, None, Option}
use Rattle.std.specs.List.{AllByRecursion}
-- every one passes the test, some one does
pub use Rattle.std.specs.List.{list_all as every, list_any as any}

-- x stands in the list
abbrev pub In : {X : Type 0} → X → List X → Type 0
In x [] = ⊥
In x (y ∷ ys) = (y ≡ x) ⊎ In x ys

-- each earlier one stands in R to each later one
abbrev pub Sorted : {X : Type 0} → (X → X → Type 0) → List X → Type 0
Sorted R [] = Unit {0}
Sorted R (x ∷ xs) = AllByRecursion (R x) xs × Sorted R xs

-- those that pass, in order
abbrev pub keep_if : {X : Type 0} → (X → Bool) → List X → List X
keep_if t [] = []
keep_if t (x ∷ xs) = let rest = keep_if t xs in cond (t x) (x ∷ rest) rest

-- the first that passes
abbrev pub first_of : {X : Type 0} → (X → Bool) → List X → Option X
first_of t [] = None
first_of t (x ∷ xs) = let rest = first_of t xs in cond (t x) (Some x) rest
