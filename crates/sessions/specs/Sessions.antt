-- What the program prints of a session file.
use Rattle.std.specs.Prelude.{ℕ, ◌+◌, ◌-◌, false, List, [], ◌∷◌, ◌++◌, map, length, take, Ok, Err, Result}
use Rattle.faults.specs.declared.Fault.{Fault}
use Rattle.states.specs.declared.state.State.{State}
use Rattle.states.specs.States.{kept}
use Rattle.conditions.specs.declared.truth.Truth.{Truth}
use Rattle.books.specs.Books.{checked, book_says}
use Rattle.plain.specs.Record.{World, Fit, new, passed, fit_checks, step, whole}
use Rattle.ledger.specs.Answers.{told}
use Rattle.command_words.specs.declared.Command.{Command}
use Rattle.commands.specs.Reading.{reading}
use Rattle.frames.specs.Frames.{Parts, and_then, laid_out, records}
use Rattle.sessions.specs.Lines.{line, verb_text, unread}
use Rattle.sessions.specs.Commands.{performed}

module _ (size : ℕ) (means : ℕ → State → Truth) (put see : ℕ → State → State) where
  -- what a command leaves, and its line, the n-th; one that could not be read leaves all as it is
  abbrev pub leaves : World → Result Command Fault → World
  leaves w (Err e) = w
  leaves w (Ok c) = (performed size means put see w c).0

  abbrev pub line_of : World → ℕ → Result Command Fault → List ℕ
  line_of w n (Err e) = unread n e
  line_of w n (Ok c) = line n (verb_text c) (told (performed size means put see w c).1)

  -- the lines of some commands, counted from n on
  unfoldable pub lines : World → ℕ → List (Result Command Fault) → List ℕ
  lines w n [] = []
  lines w n (c ∷ more) = line_of w n c ++ lines (leaves w c) (n + 1) more

-- the commands that stand in a file from an offset on, each read or refused
abbrev pub commands_from : ℕ → List ℕ → List (Result Command Fault)
commands_from at bytes = map (and_then reading) (records 0 at bytes)

-- the cabinet is fitted, and the commands are put to it; its book has k conditions
abbrev pub answered : List ℕ → Parts → ℕ → List ℕ
answered file p k =
    lines (k + 2) (book_says p.book k) whole kept (step (k + 2) (book_says p.book k) whole kept new (Fit p.owners p.kept)).0 1
    (commands_from (length file - length p.commands) p.commands)

-- behind the frame the fit is judged, and then the book; the answer is how many conditions it has
abbrev pub prepared : Parts → Result ℕ Fault
prepared p = and_then (λ (_ : Unit {0}). checked p.book) (passed (fit_checks false p.owners p.kept))

-- a set-up that is refused is the only line, with count 0
abbrev pub shown : Result (List ℕ) Fault → List ℕ
shown (Ok text) = text
shown (Err e) = unread 0 e

abbrev pub session : List ℕ → List ℕ
session file = shown (and_then (λ (p : Parts). and_then (λ (k : ℕ). Ok (answered file p k)) (prepared p)) (laid_out file))

-- the first 65,535 bytes of a file count
abbrev pub printed : List ℕ → List ℕ
printed file = session (take 65535 file)
