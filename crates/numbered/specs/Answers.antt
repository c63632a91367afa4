-- What adding and removing answer, and what the table then holds and means.
use Rattle.std.specs.Prelude.{◌≡◌, ℕ, Bool, true, false, cond, List, [], ◌∷◌, ◌++◌, length, is_some, Some, None, Ok, Err, Option, Result, ◌==◌, ◌≢◌, nat_le}
use Rattle.numbered.specs.declared.NotAdded.{NotAdded}
use Rattle.numbered.specs.declared.NotAdded.TheVariants.{Taken, Full}
use Rattle.numbered.specs.Rows.{Rises, row_of, put, without, AllBelow}

-- the answer, by whether the number is there already and whether every place is in use
abbrev pub answer_to : Bool → Bool → Result (Unit {0}) NotAdded
answer_to true full = Err Taken
answer_to false true = Err Full
answer_to false false = Ok tt

-- the answer to adding x to rows that have `size` places
abbrev pub insertion : {X : Type 0} → (X → ℕ) → X → ℕ → List X → Result (Unit {0}) NotAdded
insertion f x size xs = answer_to (is_some (row_of f (f x) xs)) (nat_le size (length xs))

-- the rows after such an answer
abbrev pub after_insertion : {X : Type 0} → (X → ℕ) → X → List X → Result (Unit {0}) NotAdded → List X
after_insertion f x xs (Ok u) = put f x xs
after_insertion f x xs (Err e) = xs

-- the rows and the count are what they were, if no row was taken out
abbrev pub KeptIfNone : {X : Type 0} → Option X → Type 0 → Type 0
KeptIfNone None Kept = Kept
KeptIfNone (Some x) Kept = Unit {0}

-- adding x, in terms of numbers: the number of x now means x, every other number what it meant; rising
-- numbers still rise; and x comes last where its number is above all others
pub record PutLaws {X : Type 0} (f : X → ℕ) (x : X) (xs : List X) : Type 0 where
  pub means : (m : ℕ) → row_of f m (put f x xs) ≡ cond (f x == m) (Some x) (row_of f m xs)
  pub rises : Rises f xs → row_of f (f x) xs ≡ None → Rises f (put f x xs)
  pub last : AllBelow f (f x) xs → put f x xs ≡ xs ++ (x ∷ [])

-- removing number n: where the numbers rose, n now means no row; every other number means what it meant;
-- rising numbers still rise
pub record WithoutLaws {X : Type 0} (f : X → ℕ) (n : ℕ) (xs : List X) : Type 0 where
  pub gone : Rises f xs → row_of f n (without f n xs) ≡ None
  pub others : (m : ℕ) → (n ≢ m) → row_of f m (without f n xs) ≡ row_of f m xs
  pub rises : Rises f xs → Rises f (without f n xs)
