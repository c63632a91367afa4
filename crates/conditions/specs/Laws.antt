-- What a condition language is: a count, a truth for each number and state, and the laws that they keep.
use Rattle.std.specs.Prelude.{◌≡◌, ℕ, ◌≤◌}
use Rattle.states.specs.declared.state.State.{State}
use Rattle.states.specs.States.{InRange, ToldMore, kept}
use Rattle.conditions.specs.declared.truth.Truth.{Truth}
use Rattle.conditions.specs.declared.truth.Truth.TheVariants.{True, False, Unknown}

-- true stays true and false stays false
abbrev pub Stays : Truth → Truth → Type 0
Stays True y = y ≡ True
Stays False y = y ≡ False
Stays Unknown y = Unit {0}

-- The laws. They speak of states in range, since those are all the states that there are.
pub record Lawful (count : ℕ) (truth : ℕ → State → Truth) : Type 0 where
  -- the count lies from 2 to 1,024, and past it every truth is unknown
  pub least : 2 ≤ count
  pub most : count ≤ 1024
  pub past : (n : ℕ) (s : State) → count ≤ n → truth n s ≡ Unknown
  -- condition 0 is true of every state, and condition 1 false
  pub always : (s : State) → InRange s → truth 0 s ≡ True
  pub never : (s : State) → InRange s → truth 1 s ≡ False
  -- where a state is told more and nothing known is altered, what was true or false stays so
  pub steady : (n : ℕ) (s t : State) → InRange t → ToldMore s t → Stays (truth n s) (truth n t)

-- in every lawful language, what is true of a kept part of a state is true of the state
abbrev pub KeptThenWhole : Type 0
KeptThenWhole =
    (count : ℕ) (truth : ℕ → State → Truth) → Lawful count truth
    → (set n : ℕ) (s : State) → InRange s → truth n (kept set s) ≡ True → truth n s ≡ True
