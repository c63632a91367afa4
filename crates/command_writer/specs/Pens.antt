-- The 64 bytes of a record, and a pen that writes at most so many.
use Rattle.std.specs.Prelude.{ℕ, ◌-◌, List, [], ◌∷◌, ◌++◌, length, take, replicate}
use Rattle.command_words.specs.declared.Command.{Command}
use Rattle.command_words.specs.Fields.{Field, spell}
use Rattle.command_words.specs.Format.{verb_of, verb_letter, caller_of}

-- the bytes of a record, then zeros, 64 in all
abbrev pub filled : List ℕ → List ℕ
filled bytes = bytes ++ replicate (64 - length bytes) 0

-- the rest of this file says what the inner functions do: bytes behind those that are written, as far as there is room
abbrev pub puts : List ℕ → List ℕ → List ℕ
puts written bytes = written ++ take (64 - length written) bytes

-- fields one behind another; the last one stands first in the list
abbrev pub penned : List ℕ → List Field → List ℕ
penned written [] = written
penned written (f ∷ before) = puts (penned written before) (spell f)

abbrev pub start : Command → List Field
start c = (2, caller_of c ∷ []) ∷ (1, verb_letter (verb_of c) ∷ []) ∷ []
