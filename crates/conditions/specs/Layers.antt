-- What the layers over a language say.
use Rattle.std.specs.Prelude.{ℕ, ◌+◌, ◌-◌, min, cond, nat_lt}
use Rattle.states.specs.declared.state.State.{State}
use Rattle.states.specs.States.{hidden}
use Rattle.conditions.specs.declared.truth.Truth.{Truth}
use Rattle.conditions.specs.declared.truth.Truth.TheVariants.{Unknown}

-- distrust: the language below is asked with the named variables unknown
abbrev pub distrusted : ℕ → (ℕ → State → Truth) → ℕ → State → Truth
distrusted set truth n s = truth n (hidden set s)

-- joined: the second's numbers stand behind the first's, 1,024 in all at the most
abbrev pub joined_size : ℕ → ℕ → ℕ
joined_size a b = min (a + b) 1024

abbrev pub joined : ℕ → (ℕ → State → Truth) → (ℕ → State → Truth) → ℕ → State → Truth
joined a first second n s = cond (nat_lt n a) (first n s) (cond (nat_lt n 1024) (second (n - a) s) Unknown)
