-- Lists of rows that have a number; f gives the number of a row.
use Rattle.std.specs.Prelude.{◌≡◌, ℕ, suc, ◌+◌, Bool, true, cond, ◌&&◌, List, [], ◌∷◌, Some, None, Option, ◌==◌, nat_le, nat_lt}

-- every number is at least low, and above the number before it
abbrev pub rises_from : {X : Type 0} → (X → ℕ) → ℕ → List X → Bool
rises_from f low [] = true
rises_from f low (x ∷ xs) = nat_le low (f x) && rises_from f (suc (f x)) xs

-- the numbers rise strictly
abbrev pub Rises : {X : Type 0} → (X → ℕ) → List X → Type 0
Rises f xs = rises_from f 0 xs ≡ true

-- the place of the first row numbered n, if the first row stands at i
abbrev pub place_from : {X : Type 0} → (X → ℕ) → ℕ → ℕ → List X → Option ℕ
place_from f n i [] = None
place_from f n i (x ∷ xs) = cond (f x == n) (Some i) (place_from f n (i + 1) xs)

abbrev pub place_of : {X : Type 0} → (X → ℕ) → ℕ → List X → Option ℕ
place_of f n xs = place_from f n 0 xs

-- the first row numbered n: what the list means, as a map from numbers to rows
abbrev pub row_of : {X : Type 0} → (X → ℕ) → ℕ → List X → Option X
row_of f n [] = None
row_of f n (x ∷ xs) = cond (f x == n) (Some x) (row_of f n xs)

-- the rows with x among them, before the first row whose number is not below its own
abbrev pub put : {X : Type 0} → (X → ℕ) → X → List X → List X
put f x [] = x ∷ []
put f x (y ∷ ys) = cond (nat_lt (f y) (f x)) (y ∷ put f x ys) (x ∷ y ∷ ys)

-- how many rows at the front have a number below n
abbrev pub before : {X : Type 0} → (X → ℕ) → ℕ → List X → ℕ
before f n [] = 0
before f n (y ∷ ys) = cond (nat_lt (f y) n) (suc (before f n ys)) 0

-- the rows without the first one numbered n
abbrev pub without : {X : Type 0} → (X → ℕ) → ℕ → List X → List X
without f n [] = []
without f n (y ∷ ys) = cond (f y == n) ys (y ∷ without f n ys)

-- every row has a number below n
abbrev pub all_below : {X : Type 0} → (X → ℕ) → ℕ → List X → Bool
all_below f n [] = true
all_below f n (x ∷ xs) = nat_lt (f x) n && all_below f n xs

abbrev pub AllBelow : {X : Type 0} → (X → ℕ) → ℕ → List X → Type 0
AllBelow f n xs = all_below f n xs ≡ true
