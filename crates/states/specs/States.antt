-- States, what is known in them, and the parts that a set of variables picks out.
use Rattle.std.specs.Prelude.{◌≡◌, ℕ, ◌/◌, ◌%◌, ◌^◌, ◌≤◌, Bool, cond, not, ◌&&◌, ◌||◌, [], ◌∷◌, map, Some, None, Option, ◌==◌, nat_lt, slice_index, slice_index_or}
use Rattle.std.specs.List.{range_with_len}
use Rattle.states.specs.declared.state.State.{State}

-- the value of variable v, if it is known; there are eight variables
abbrev pub known : State → ℕ → Option ℕ
known s v = cond (nat_lt v 8) (slice_index_or s.values v None) None

-- the least and the greatest value of each variable: USER, GRANTEE, TIME, DAY, GROUPS, PATH, LEVEL, STATUS
abbrev pub least : ℕ → ℕ
least v = cond (nat_lt v 2) 1 0

abbrev pub greatest : ℕ → ℕ
greatest v = slice_index (200 ∷ 200 ∷ 1439 ∷ 6 ∷ 65535 ∷ 1 ∷ 100 ∷ 1 ∷ []) v

-- variable v is unknown, or its value lies in its range
abbrev pub InRangeAt : State → ℕ → Type 0
InRangeAt s v = (n : ℕ) → known s v ≡ Some n → (least v ≤ n) × (n ≤ greatest v)

-- every known value lies in its variable's range
abbrev pub InRange : State → Type 0
InRange s = (v : ℕ) → InRangeAt s v

-- t is told more than s, or as much: t knows all that s knows, and the same
abbrev pub ToldMore : State → State → Type 0
ToldMore s t = (v n : ℕ) → known s v ≡ Some n → known t v ≡ Some n

-- the state that knows of s only the variables which pass the test
abbrev pub only_at : (ℕ → Bool) → State → ℕ → Option ℕ
only_at test s v = cond (test v) (known s v) None

abbrev pub only : (ℕ → Bool) → State → State
only test s = record { values = map (only_at test s) (range_with_len 0 8) }

-- a set of variables, one bit for each, names v
abbrev pub names : ℕ → ℕ → Bool
names set v = nat_lt v 8 && (set / 2 ^ v) % 2 == 1

-- the kept part of a state: the caller and the receiver, and the variables that the set names
abbrev pub kept_at : ℕ → State → ℕ → Option ℕ
kept_at set = only_at (λ v. nat_lt v 2 || names set v)

abbrev pub kept : ℕ → State → State
kept set = only (λ v. nat_lt v 2 || names set v)

-- the state with the variables that the set names unknown; the caller and the receiver cannot be hidden
abbrev pub hidden_at : ℕ → State → ℕ → Option ℕ
hidden_at set = only_at (λ v. nat_lt v 2 || not (names set v))

abbrev pub hidden : ℕ → State → State
hidden set = only (λ v. nat_lt v 2 || not (names set v))
