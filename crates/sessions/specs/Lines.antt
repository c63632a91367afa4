-- The text of a line: a count, a verb, and an answer.
use Rattle.std.specs.Prelude.{ℕ, List, [], ◌∷◌, ◌++◌, Ok, Err, codes, decimal, Result}
use Rattle.faults.specs.declared.Fault.{Fault}
use Rattle.faults.specs.Faults.{number_of}
use Rattle.command_words.specs.declared.Command.{Command}
use Rattle.command_words.specs.Format.{verb_letter, verb_of}

-- an answer: accepted with a number, or refused with the refusal's number and its place
abbrev pub answer_text : Result ℕ Fault → List ℕ
answer_text (Ok n) = codes " ok " ++ (decimal n ++ codes "\n")
answer_text (Err e) = codes " no " ++ (decimal (number_of e.refusal) ++ (codes " " ++ (decimal e.place ++ codes "\n")))

-- a line: its count, its verb, its answer
abbrev pub line : ℕ → List ℕ → Result ℕ Fault → List ℕ
line count verb answer = decimal count ++ (codes " " ++ (verb ++ answer_text answer))

-- the verb of a command is its letter
abbrev pub verb_text : Command → List ℕ
verb_text c = verb_letter (verb_of c) ∷ []

-- where no command could be read, a question mark stands for the verb
abbrev pub unread : ℕ → Fault → List ℕ
unread count e = line count (codes "?") (Err e)
