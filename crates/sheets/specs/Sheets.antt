-- The sheet: rows, numbered from 2.
use Rattle.std.specs.Prelude.{◌≡◌, ℕ, ◌+◌, ◌<◌, ◌≤◌, cond, ◌⊎◌, List, Some, None, Ok, Err, Option, Result, nat_le, slice_index_or}
use Rattle.faults.specs.declared.Fault.{Fault}
use Rattle.faults.specs.declared.Refusal.TheVariants.{ConditionsIllFormed}
use Rattle.faults.specs.Faults.{fault}
use Rattle.states.specs.declared.state.State.{State}
use Rattle.conditions.specs.declared.truth.Truth.{Truth}
use Rattle.conditions.specs.Own.{with_own}
use Rattle.sheets.specs.declared.row.Row.{Row}
use Rattle.sheets.specs.Rows.{blank, row_says, part, greatest, first_bad}

-- what the conditions of a sheet say: each of its rows is one
abbrev pub sheet_says : List Row → ℕ → ℕ → State → Truth
sheet_says rows used = with_own used (λ k s. row_says (slice_index_or rows k blank) s)

-- the answer to a row that has a place: its number, if every part is in range
abbrev pub placed : ℕ → Option ℕ → Result ℕ Fault
placed used None = Ok (used + 2)
placed used (Some bad) = Err (fault ConditionsIllFormed bad)

-- the answer to a row that is to be added behind `used` others
abbrev pub added : ℕ → Row → Result ℕ Fault
added used r = cond (nat_le 64 used) (Err (fault ConditionsIllFormed 0)) (placed used (first_bad r))

-- what the answer says: accepted, there was a place and every part is in range, and the number is the next;
-- refused, the sheet is full, or it is at the first part out of range
abbrev pub Judged : ℕ → Row → Result ℕ Fault → Type 0
Judged used r (Ok n) = (used < 64) × ((p : ℕ) → part r p ≤ greatest p) × (n ≡ used + 2)
Judged used r (Err e) =
    ((64 ≤ used) × (e ≡ fault ConditionsIllFormed 0))
    ⊎ ((used < 64) × ((p : ℕ) × (e ≡ fault ConditionsIllFormed p) × (greatest p < part r p) × ((q : ℕ) → q < p → part r q ≤ greatest q)))
