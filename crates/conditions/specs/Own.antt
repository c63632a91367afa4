-- A language given by its own conditions, which are numbered from 2.
use Rattle.std.specs.Prelude.{ℕ, ◌+◌, ◌-◌, cond, ◌==◌, nat_lt}
use Rattle.states.specs.declared.state.State.{State}
use Rattle.conditions.specs.declared.truth.Truth.{Truth}
use Rattle.conditions.specs.declared.truth.Truth.TheVariants.{True, False, Unknown}

-- condition 0 is true, condition 1 false, and the others count from 2; own k is the k-th of them, from 0
abbrev pub with_own : ℕ → (ℕ → State → Truth) → ℕ → State → Truth
with_own count own n s =
    cond (n == 0) True (cond (n == 1) False (cond (nat_lt n (count + 2)) (own (n - 2) s) Unknown))
