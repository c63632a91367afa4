-- What the inner functions of a session answer.
use Rattle.std.specs.Prelude.{◌≡◌, ℕ, ◌-◌, List, length, Ok, Err, Result}
use Rattle.faults.specs.declared.Fault.{Fault}
use Rattle.states.specs.declared.state.State.{State}
use Rattle.states.specs.States.{kept}
use Rattle.conditions.specs.declared.truth.Truth.{Truth}
use Rattle.plain.specs.Record.{Fit, new, step, whole}
use Rattle.controller.specs.declared.cabinet.Cabinet.{Cabinet}
use Rattle.ledger.specs.Answers.{told}
use Rattle.controller.specs.Cabinets.{world}
use Rattle.command_words.specs.declared.Command.{Command}
use Rattle.frames.specs.Frames.{Parts, and_then}
use Rattle.commands.specs.Reading.{reading}
use Rattle.sessions.specs.Commands.{performed}
use Rattle.sessions.specs.Sessions.{leaves, line_of, lines, commands_from, prepared, shown}

-- a command was put to a cabinet, and answered
pub record Performs {L : Type 0} (size : L → ℕ) (says : L → ℕ → State → Truth) (before : Cabinet L) (c : Command) (answer : Result ℕ Fault) (after : Cabinet L) : Type 0 where
  pub language : after.language ≡ before.language
  pub held : world after ≡ (performed (size before.language) (says before.language) kept whole (world before) c).0
  pub told_so : answer ≡ told (performed (size before.language) (says before.language) kept whole (world before) c).1

-- a command's record was put to a cabinet
pub record Answers {L : Type 0} (size : L → ℕ) (says : L → ℕ → State → Truth) (before : Cabinet L) (bytes : List ℕ) (after : Cabinet L) : Type 0 where
  pub language : after.language ≡ before.language
  pub held : world after ≡ leaves (size before.language) (says before.language) kept whole (world before) (reading bytes)

-- the line of a command's record, the n-th
abbrev pub writes : {L : Type 0} → (L → ℕ) → (L → ℕ → State → Truth) → Cabinet L → ℕ → List ℕ → List ℕ
writes size says c n bytes = line_of (size c.language) (says c.language) kept whole (world c) n (reading bytes)

-- the lines of the commands that stand in a file from an offset on, counted from n on
abbrev pub continues : {L : Type 0} → (L → ℕ) → (L → ℕ → State → Truth) → Cabinet L → ℕ → ℕ → List ℕ → List ℕ
continues size says c n at bytes = lines (size c.language) (says c.language) kept whole (world c) n (commands_from at bytes)

-- whether something was accepted, without its number
abbrev pub judgement : Result ℕ Fault → Result (Unit {0}) Fault
judgement (Ok n) = Ok tt
judgement (Err e) = Err e

-- a new cabinet was fitted, if it was accepted
pub record Fitted {L : Type 0} (size : L → ℕ) (says : L → ℕ → State → Truth) (before : Cabinet L) (p : Parts) (answer : Result (Unit {0}) Fault) (after : Cabinet L) : Type 0 where
  pub language : after.language ≡ before.language
  pub held : world after ≡ (step (size before.language) (says before.language) kept whole new (Fit p.owners p.kept)).0
  pub answered_so : answer ≡ judgement (prepared p)

-- what is printed once the frame of a file that ends at `end` is found, by a new cabinet with some language
abbrev pub runs : ℕ → (ℕ → State → Truth) → Parts → ℕ → List ℕ
runs size means p end =
    shown (and_then (λ (_ : Unit {0}). Ok (lines size means kept whole (step size means kept whole new (Fit p.owners p.kept)).0 1 (commands_from (end - length p.commands) p.commands)))
    (judgement (prepared p)))
