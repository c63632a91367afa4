-- A set of places as a number.
use Rattle.std.specs.Prelude.{◌≡◌, ℕ, ◌/◌, ◌%◌, ◌^◌, ◌<◌, Bool, true, false, not, ◌&&◌, Some, None, Option, ◌==◌}

-- place i is in the set: bit i is 1
abbrev pub member : ℕ → ℕ → Bool
member s i = s / 2 ^ i % 2 == 1

-- the set is empty, or i is the lowest place of it
abbrev pub IsFirst : ℕ → Option ℕ → Type 0
IsFirst s None = s ≡ 0
IsFirst s (Some i) = (i < 128) × (member s i ≡ true) × ((j : ℕ) → j < i → member s j ≡ false)

-- the set is empty, and stays so; or i is its lowest place, and t has all others
abbrev pub TakesFirst : ℕ → Option ℕ → ℕ → Type 0
TakesFirst s None t = (s ≡ 0) × (t ≡ 0)
TakesFirst s (Some i) t = IsFirst s (Some i) × ((j : ℕ) → member t j ≡ (member s j && not (j == i)))
