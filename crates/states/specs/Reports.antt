-- A whole state, made of the caller, the receiver and what the caller tells.
use Rattle.std.specs.Prelude.{ℕ, [], ◌∷◌, Some, Option}
use Rattle.states.specs.declared.state.State.{State}
use Rattle.states.specs.declared.report.Report.{Report}

-- variables 0 and 1 are filled in; the receiver is unknown where the call has none
abbrev pub state_of : ℕ → Option ℕ → Report → State
state_of caller receiver told =
    record { values = Some caller ∷ receiver ∷ told.time ∷ told.day ∷ told.groups ∷ told.path ∷ told.level ∷ told.status ∷ [] }
