-- The law of the frame: where the parts of a file stand, and where a part should stand that is missing.
use Rattle.std.specs.Prelude.{◌≡◌, ℕ, ◌⊎◌, List, [], ◌∷◌, ◌++◌, length, Ok, Err, Result, ◌≢◌}
use Rattle.std.specs.List.{AllByRecursion}
use Rattle.faults.specs.declared.Fault.{Fault}
use Rattle.command_words.specs.Fields.{Field, spell, spells}
use Rattle.commands.specs.Law.{CutShort, ill}
use Rattle.frames.specs.Frames.{Parts}

-- fields that are all tagged C1
abbrev pub Conditions : List Field → Type 0
Conditions fs = AllByRecursion (λ (f : Field). f.0 ≡ 0xC1) fs

-- a book, and what stands behind it: whole C1 fields, behind which no C1 stands; or whole C1 fields and one more that is cut by
-- the end of the file
pub data Book (book behind : List ℕ) : Type 0 where
  ended : (fs : List Field) → Conditions fs → book ≡ spells fs → ((rest : List ℕ) → behind ≢ 0xC1 ∷ rest) → Book book behind
  cut_off : (fs : List Field) (last : List ℕ) → Conditions fs → book ≡ spells fs ++ (0xC1 ∷ last) → CutShort (0xC1 ∷ last) → behind ≡ [] → Book book behind

-- what an answer says. Accepted: the owners, the kept set, the book and the commands are the file. Refused at 0: the file does not
-- begin with owners. Refused where the owners end: no kept set stands behind them
abbrev pub Framed : List ℕ → Result Parts Fault → Type 0
Framed file (Ok p) = (file ≡ spell (0xF0, p.owners) ++ (spell (0xF1, p.kept ∷ []) ++ (p.book ++ p.commands))) × Book p.book p.commands
Framed file (Err e) =
    ((e ≡ ill 0) × ((owners rest : List ℕ) → file ≢ spell (0xF0, owners) ++ rest))
    ⊎ ((owners rest : List ℕ) × (file ≡ spell (0xF0, owners) ++ rest) × (e ≡ ill (length (spell (0xF0, owners)))) × ((set : ℕ) (more : List ℕ) → rest ≢ spell (0xF1, set ∷ []) ++ more))
