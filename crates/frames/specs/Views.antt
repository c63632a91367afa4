-- The parts that the code hands out, as lists of bytes.
use Rattle.std.specs.Prelude.{ℕ, List, Ok, Err, Result}
use Rattle.std.specs.Borrow.{Bor}
use Rattle.faults.specs.declared.Fault.{Fault}
use Rattle.commands.specs.declared.fields.Parsed.{Parsed}
use Rattle.commands.specs.Steps.{parsed}
use Rattle.frames.specs.declared.parts.SetUp.{SetUp}
use Rattle.frames.specs.Frames.{Parts}

-- what an accepted answer holds, seen in another way
abbrev pub seen_as : {A B : Type 0} → (A → B) → Result A Fault → Result B Fault
seen_as f (Ok a) = Ok (f a)
seen_as f (Err e) = Err e

abbrev pub parts_of : SetUp → Parts
parts_of s = record { owners = s.owners.now; kept = s.kept; book = s.book.now; commands = s.commands.now }

abbrev pub piece_of : Parsed (Bor (List ℕ)) → List ℕ × List ℕ
piece_of = parsed (λ (value : Bor (List ℕ)). value.now)

abbrev pub kept_of : Parsed ℕ → ℕ × List ℕ
kept_of = parsed (λ (set : ℕ). set)
