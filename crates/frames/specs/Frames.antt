-- The frame of a session file: the owners (field F0), the kept set (F1), the book (C1 fields), the commands (F3 fields).
use Rattle.std.specs.Prelude.{ℕ, zero, suc, ◌+◌, ◌*◌, min, cond, List, [], ◌∷◌, length, take, drop, Some, None, Ok, Err, Option, Result, ◌==◌, slice_index}
use Rattle.std.specs.Option.{ok_or, option_and_then as then}
use Rattle.faults.specs.declared.Fault.{Fault}
use Rattle.command_words.specs.Fields.{Field}
use Rattle.commands.specs.Steps.{cut, alone}
use Rattle.commands.specs.Law.{ill}

-- the parts of a file
pub record Parts : Type 0 where
  pub owners : List ℕ
  pub kept : ℕ
  pub book : List ℕ
  pub commands : List ℕ

-- the value of a field with this tag, and what stands behind it
abbrev pub tagged : ℕ → Field × List ℕ → Option (List ℕ × List ℕ)
tagged t f = cond (f.0.0 == t) (Some (f.0.1, f.1)) None

-- the same of the bytes that begin with that field, if it is whole
abbrev pub field_of : ℕ → List ℕ → Option (List ℕ × List ℕ)
field_of t bs = then (tagged t) (cut bs)

-- a kept set is a value of one byte
abbrev pub set_in : List ℕ × List ℕ → Option (ℕ × List ℕ)
set_in p = then (λ k. Some (k, p.1)) (alone p.0)

-- how many bytes the C1 field takes that stands at the front: its tag, two bytes of length and its value, as far as there are
-- bytes; 0 where none stands there
abbrev pub condition_length : List ℕ → ℕ
condition_length bs = cond (slice_index bs 0 == 0xC1) (min (length bs) (3 + (slice_index bs 1 * 256 + slice_index bs 2))) 0

-- how many bytes at the front are C1 fields; of a field that has begun, `skip` bytes are passed over yet
unfoldable pub book_length : ℕ → List ℕ → ℕ
book_length skip [] = 0
book_length zero (b ∷ bs) = cond (b == 0xC1) (suc (book_length (2 + (slice_index bs 0 * 256 + slice_index bs 1)) bs)) 0
book_length (suc n) (b ∷ bs) = suc (book_length n bs)

-- what stands behind the kept set: the book, and then the commands
abbrev pub split : List ℕ → ℕ × List ℕ → Parts
split owners k = record { owners = owners; kept = k.0; book = take (book_length 0 k.1) k.1; commands = drop (book_length 0 k.1) k.1 }

-- a part that is there leads on
abbrev pub and_then : {A B : Type 0} → (A → Result B Fault) → Result A Fault → Result B Fault
and_then f (Ok a) = f a
and_then f (Err e) = Err e

-- the parts of a file; a part that is missing is refused at the offset where it should stand
abbrev pub laid_out : List ℕ → Result Parts Fault
laid_out file =
    and_then (λ (o : List ℕ × List ℕ). and_then (λ (k : ℕ × List ℕ). Ok (split o.0 k)) (ok_or (then set_in (field_of 0xF1 o.1)) (ill (3 + length o.0))))
    (ok_or (field_of 0xF0 file) (ill 0))

-- the next command's record, and what stands behind it
abbrev pub next_command : List ℕ → Option (List ℕ × List ℕ)
next_command bs = field_of 0xF3 bs

abbrev pub either : {A B : Type 0} → Option A → B → (A → B) → B
either None b f = b
either (Some a) b f = f a

-- the commands' records, one behind another, from an offset in the file on; of a command that has begun, `skip` bytes are passed
-- over yet. Where something else stands than a whole command, its refusal is the last entry
unfoldable pub records : ℕ → ℕ → List ℕ → List (Result (List ℕ) Fault)
records skip o [] = []
records zero o (b ∷ bs) = either (next_command (b ∷ bs)) (Err (ill o) ∷ []) (λ (p : List ℕ × List ℕ). Ok p.0 ∷ records (suc (suc (length p.0))) (o + 1) bs)
records (suc n) o (b ∷ bs) = records n (o + 1) bs
