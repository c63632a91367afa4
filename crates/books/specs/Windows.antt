-- A book of one condition, TIME from 480 to 1080, at the edges of its window.
use Rattle.std.specs.Prelude.{◌≡◌, ℕ, List, [], ◌∷◌, Some, None, Ok, Option}
use Rattle.states.specs.declared.state.State.{State}
use Rattle.conditions.specs.declared.truth.Truth.TheVariants.{True, False, Unknown}
use Rattle.books.specs.Books.{checked, book_says}

-- tag C1, length 6, and the item B1 of variable 2 from 480 to 1080
abbrev pub office_hours : List ℕ
office_hours = 0xC1 ∷ 0 ∷ 6 ∷ 0xB1 ∷ 2 ∷ 1 ∷ 224 ∷ 4 ∷ 56 ∷ []

-- the state in which person 1 calls and only TIME is told, or not even that
abbrev pub timed : Option ℕ → State
timed time = record { values = Some 1 ∷ None ∷ time ∷ None ∷ None ∷ None ∷ None ∷ None ∷ [] }

-- the bytes are a book of one condition, number 2: false at 479, true at 480 and 1080, false at 1081, and unknown where TIME is
pub record Window (bs : List ℕ) : Type 0 where
  pub one : checked bs ≡ Ok 1
  pub too_early : book_says bs 1 2 (timed (Some 479)) ≡ False
  pub first : book_says bs 1 2 (timed (Some 480)) ≡ True
  pub last : book_says bs 1 2 (timed (Some 1080)) ≡ True
  pub too_late : book_says bs 1 2 (timed (Some 1081)) ≡ False
  pub untold : book_says bs 1 2 (timed None) ≡ Unknown
