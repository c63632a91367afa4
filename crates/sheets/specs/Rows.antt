-- A row of a sheet: the "and" of five tests, of which one that asks nothing is true.
use Rattle.std.specs.Prelude.{ℕ, ◌/◌, ◌%◌, ◌^◌, cond, ◌&&◌, [], ◌∷◌, Some, None, Option, ◌==◌, bit_and, nat_lt, slice_index}
use Rattle.states.specs.declared.state.State.{State}
use Rattle.states.specs.States.{known}
use Rattle.conditions.specs.declared.truth.Truth.{Truth}
use Rattle.conditions.specs.declared.truth.Truth.TheVariants.{True, False, Unknown}
use Rattle.conditions.specs.Truths.{conj, within}
use Rattle.sheets.specs.declared.row.Row.{Row}

-- the row that fills the unused places of a sheet
abbrev pub blank : Row
blank = record { from = 0; to = 0; days = 0; groups = 0; path = 0; barred = 0 }

-- the day is in a set of days; of an unknown variable each test is unknown
abbrev pub in_days : Option ℕ → ℕ → Truth
in_days None set = Unknown
in_days (Some x) set = cond (nat_lt x 8 && (set / 2 ^ x) % 2 == 1) True False

-- every group of the set is among the caller's
abbrev pub holds_all : Option ℕ → ℕ → Truth
holds_all None set = Unknown
holds_all (Some x) set = cond ((bit_and set x) == set) True False

-- the person is another than the barred one
abbrev pub other : Option ℕ → ℕ → Truth
other None n = Unknown
other (Some x) n = cond (x == n) False True

-- TIME (2) lies from `from` to `to`; the whole day asks nothing
abbrev pub hours_of : Row → State → Truth
hours_of r s = cond (r.from == 0 && r.to == 1439) True (within (known s 2) r.from r.to)

-- DAY (3) is in the set; all seven days ask nothing
abbrev pub days_of : Row → State → Truth
days_of r s = cond (r.days == 127) True (in_days (known s 3) r.days)

-- all named groups are in GROUPS (4); no group asks nothing
abbrev pub groups_of : Row → State → Truth
groups_of r s = cond (r.groups == 0) True (holds_all (known s 4) r.groups)

-- PATH (5) is 1; mark 0 asks nothing
abbrev pub path_of : Row → State → Truth
path_of r s = cond (r.path == 0) True (within (known s 5) 1 1)

-- GRANTEE (1) is not the barred person; 0 asks nothing
abbrev pub barred_of : Row → State → Truth
barred_of r s = cond (r.barred == 0) True (other (known s 1) r.barred)

abbrev pub row_says : Row → State → Truth
row_says r s = conj (conj (conj (conj (hours_of r s) (days_of r s)) (groups_of r s)) (path_of r s)) (barred_of r s)

-- the parts of a row by number, from 1, and the greatest value of each; there is no part 0
abbrev pub part : Row → ℕ → ℕ
part r p = slice_index (0 ∷ r.from ∷ r.to ∷ r.days ∷ r.groups ∷ r.path ∷ r.barred ∷ []) p

abbrev pub greatest : ℕ → ℕ
greatest p = slice_index (0 ∷ 1439 ∷ 1439 ∷ 127 ∷ 65535 ∷ 1 ∷ 200 ∷ []) p

-- the number of the first part out of range; every set of 16 groups is in range
abbrev pub first_bad : Row → Option ℕ
first_bad r =
    cond (nat_lt 1439 r.from) (Some 1)
    (cond (nat_lt 1439 r.to) (Some 2)
    (cond (nat_lt 127 r.days) (Some 3)
    (cond (nat_lt 1 r.path) (Some 5)
    (cond (nat_lt 200 r.barred) (Some 6) None))))
