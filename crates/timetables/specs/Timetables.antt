-- The timetable of a book, as text: a line for each condition, with each minute of a day at which a truth begins.
use Rattle.std.specs.Prelude.{ℕ, zero, suc, ◌+◌, ◌-◌, Bool, true, false, cond, List, [], ◌++◌, Some, None, Ok, Err, codes, decimal, Option, Result}
use Rattle.faults.specs.declared.Fault.{Fault}
use Rattle.faults.specs.Faults.{printed as fault_printed}
use Rattle.states.specs.declared.state.State.{State}
use Rattle.states.specs.Reports.{state_of}
use Rattle.conditions.specs.declared.truth.Truth.{Truth}
use Rattle.conditions.specs.declared.truth.Truth.TheVariants.{True, False, Unknown}
use Rattle.conditions.specs.Truths.{word_of}
use Rattle.books.specs.Books.{checked, book_says}

-- two truths are the same
abbrev pub same : Truth → Truth → Bool
same True True = true
same True False = false
same True Unknown = false
same False True = false
same False False = true
same False Unknown = false
same Unknown True = false
same Unknown False = false
same Unknown Unknown = true

-- the state in which person 1 calls and only the minute of the day is told
abbrev pub at_minute : ℕ → State
at_minute m = state_of 1 None (record { time = Some m; day = None; groups = None; path = None; level = None; status = None })

-- the truth of condition n, minute by minute
abbrev pub truths : (ℕ → State → Truth) → ℕ → ℕ → Truth
truths says n m = says n (at_minute m)

-- the truth of the minute before, which the first minute has not
abbrev pub before : (ℕ → Truth) → ℕ → Option Truth
before f zero = None
before f (suc m) = Some (f m)

-- what minute m adds to its line: itself and its truth, where that begins
abbrev pub piece_of : Option Truth → ℕ → Truth → List ℕ
piece_of None m t = decimal m ++ (codes " " ++ word_of t)
piece_of (Some u) m t = cond (same u t) [] (codes ", " ++ (decimal m ++ (codes " " ++ word_of t)))

-- the course of a condition through the first m minutes
unfoldable pub course : (ℕ → Truth) → ℕ → List ℕ
course f zero = []
course f (suc m) = course f m ++ piece_of (before f m) m (f m)

-- the line of condition n: its number, and its course through a day
abbrev pub line : (ℕ → State → Truth) → ℕ → List ℕ
line says n = (decimal n ++ codes ": ") ++ (course (truths says n) 1440 ++ codes "\n")

-- the lines of the first k conditions behind 0 and 1
unfoldable pub lines : (ℕ → State → Truth) → ℕ → List ℕ
lines says zero = []
lines says (suc k) = lines says k ++ line says (k + 2)

-- a language's own conditions, of which 0 and 1 are none: how many, and a line for each
abbrev pub table_of : ℕ → (ℕ → State → Truth) → List ℕ
table_of size says = (codes "conditions " ++ (decimal (size - 2) ++ codes "\n")) ++ lines says (size - 2)

-- a refusal, with its number and its place
abbrev pub refused : Fault → List ℕ
refused f = fault_printed f ++ codes "\n"

-- what is printed of a book, by the answer of its check
abbrev pub after_check : List ℕ → Result ℕ Fault → List ℕ
after_check bs (Ok k) = table_of (k + 2) (book_says bs k)
after_check bs (Err e) = refused e

abbrev pub printed : List ℕ → List ℕ
printed bs = after_check bs (checked bs)
