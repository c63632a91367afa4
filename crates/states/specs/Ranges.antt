-- The check of a state's known values against their ranges.
use Rattle.std.specs.Prelude.{◌≡◌, ℕ, zero, suc, ◌<◌, Bool, false, cond, ◌||◌, Some, None, Ok, Err, Option, Result, nat_lt}
use Rattle.faults.specs.declared.Fault.{Fault}
use Rattle.faults.specs.declared.Refusal.TheVariants.{ValueOutOfRange}
use Rattle.faults.specs.Faults.{fault}
use Rattle.states.specs.declared.state.State.{State}
use Rattle.states.specs.States.{known, least, greatest, InRangeAt, InRange}

-- a known value of v lies out of its range
abbrev pub out : Option ℕ → ℕ → Bool
out None v = false
out (Some n) v = nat_lt n (least v) || nat_lt (greatest v) n

abbrev pub out_at : State → ℕ → Bool
out_at s v = out (known s v) v

-- refused at the first of n variables from v on that is out of range
abbrev pub check_from : State → ℕ → ℕ → Result (Unit {0}) Fault
check_from s v zero = Ok tt
check_from s v (suc n) = cond (out_at s v) (Err (fault ValueOutOfRange v)) (check_from s (suc v) n)

abbrev pub range_check : State → Result (Unit {0}) Fault
range_check s = check_from s 0 8

-- what the check's answer says, in both directions: accepted, the state is in range; refused, it is
-- at the first variable that is not
abbrev pub Ranged : State → Result (Unit {0}) Fault → Type 0
Ranged s (Ok done) = InRange s
Ranged s (Err e) = (v : ℕ) × (e ≡ fault ValueOutOfRange v) × (v < 8) × (InRangeAt s v → ⊥) × ((u : ℕ) → u < v → InRangeAt s u)
