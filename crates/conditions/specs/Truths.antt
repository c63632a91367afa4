-- Three-valued truth, as in SQL.
use Rattle.std.specs.Prelude.{ℕ, Bool, true, false, cond, ◌&&◌, List, Some, None, Option, codes, nat_le}
use Rattle.conditions.specs.declared.truth.Truth.{Truth}
use Rattle.conditions.specs.declared.truth.Truth.TheVariants.{True, False, Unknown}

-- "and": false if either is, true if both are
abbrev pub conj : Truth → Truth → Truth
conj True y = y
conj False y = False
conj Unknown True = Unknown
conj Unknown False = False
conj Unknown Unknown = Unknown

-- "or": true if either is, false if both are
abbrev pub disj : Truth → Truth → Truth
disj True y = True
disj False y = y
disj Unknown True = True
disj Unknown False = Unknown
disj Unknown Unknown = Unknown

-- "not"
abbrev pub neg : Truth → Truth
neg True = False
neg False = True
neg Unknown = Unknown

-- unknown is not true
abbrev pub is_true : Truth → Bool
is_true True = true
is_true False = false
is_true Unknown = false

-- what a test says of a value is true or false, and of an unknown value unknown
abbrev pub tested : Option Bool → Truth
tested None = Unknown
tested (Some b) = cond b True False

-- a value lies from low to high, both included; of an unknown value that is unknown
abbrev pub within : Option ℕ → ℕ → ℕ → Truth
within None low high = Unknown
within (Some x) low high = cond (nat_le low x && nat_le x high) True False

-- the words of the three truths
abbrev pub word_of : Truth → List ℕ
word_of True = codes "true"
word_of False = codes "false"
word_of Unknown = codes "unknown"
