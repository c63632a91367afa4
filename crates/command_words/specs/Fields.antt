-- Fields: how they stand in a record, and what a list of them says under a tag.
use Rattle.std.specs.Prelude.{ℕ, ◌/◌, ◌%◌, cond, List, [], ◌∷◌, ◌++◌, length, Some, None, Option, ◌==◌}

-- a tag and a value; the value is a list of bytes
abbrev pub Field : Type 0
Field = ℕ × List ℕ

-- the bytes of a field: the tag, the length in two bytes (the high one first), the value
abbrev pub spell : Field → List ℕ
spell f = f.0 ∷ (length f.1 / 256) ∷ (length f.1 % 256) ∷ f.1

-- the bytes of a record; every list of fields here has the record's LAST field first
abbrev pub spells : List Field → List ℕ
spells [] = []
spells (f ∷ before) = spells before ++ spell f

-- the value under a tag, if there is one
abbrev pub look : ℕ → List Field → Option (List ℕ)
look t [] = None
look t (f ∷ before) = cond (f.0 == t) (Some f.1) (look t before)

-- the tag of the last field, 0 where there is none
abbrev pub last_tag : List Field → ℕ
last_tag [] = 0
last_tag (f ∷ before) = f.0
