-- The law of reading. A record begins with fields that keep the rules. Either it ends behind them, and then they make a
-- command or one is missing; or something stands behind them that is no whole field, or a field that breaks a rule.
-- The answer says which, and a refusal names the offset at which those fields end.
use Rattle.std.specs.Prelude.{◌≡◌, ℕ, ◌<◌, ◌⊎◌, List, [], ◌∷◌, ◌++◌, length, Some, None, Ok, Err, Option, Result, ◌≢◌}
use Rattle.std.specs.Option.{option_or}
use Rattle.std.specs.List.{ContainsAt as Has, AllByRecursion}
use Rattle.faults.specs.declared.Fault.{Fault}
use Rattle.faults.specs.declared.Refusal.TheVariants.{CommandIllFormed}
use Rattle.faults.specs.Faults.{fault}
use Rattle.command_words.specs.declared.Verb.{Verb}
use Rattle.command_words.specs.declared.Command.{Command}
use Rattle.command_words.specs.Fields.{Field, spell, spells, look, last_tag}
use Rattle.command_words.specs.Format.{verb_letter, tags_of, Kind, kind_of, default_of, fields_of, wire}
use Rattle.command_words.specs.Format.Kind.{bytes, letter, state, unknown}

-- tags rise strictly
abbrev pub Rises : List Field → ℕ → Type 0
Rises before t = last_tag before < t

-- the first field is the verb; every other tag is one of that verb's
abbrev pub VerbHas : Option (List ℕ) → ℕ → Type 0
VerbHas None t = t ≡ 1
VerbHas (Some v) t = (verb : Verb) × (v ≡ verb_letter verb ∷ []) × Has (tags_of verb) t

abbrev pub Belongs : List Field → ℕ → Type 0
Belongs before t = VerbHas (look 1 before) t

-- a state: variables past `last` and below 8, rising, each with two bytes behind it
abbrev pub Entries : ℕ → List ℕ → Type 0
Entries last [] = Unit {0}
Entries last (v ∷ []) = ⊥
Entries last (v ∷ hi ∷ []) = ⊥
Entries last (v ∷ hi ∷ lo ∷ rest) = (last < v) × (v < 8) × Entries v rest

-- the value has the length of its kind, is a letter that is known, or is a state; variables are from 2 to 7
abbrev pub Fits : Kind → List ℕ → Type 0
Fits (bytes n) v = length v ≡ n
Fits (letter known) v = (l : ℕ) × (v ≡ l ∷ []) × Has known l
Fits state v = Entries 1 v
Fits unknown v = ⊥

-- a field that keeps the rules behind the fields before it
pub record Keeps (before : List Field) (f : Field) : Type 0 where
  pub rises : Rises before f.0
  pub belongs : Belongs before f.0
  pub fits : Fits (kind_of f.0) f.1

-- a field that breaks one, and which
pub data Breaks (before : List Field) (f : Field) : Type 0 where
  not_rising : (Rises before f.0 → ⊥) → Breaks before f
  foreign : (Belongs before f.0 → ⊥) → Breaks before f
  unfit : (Fits (kind_of f.0) f.1 → ⊥) → Breaks before f

-- each field keeps the rules
abbrev pub Lawful : List Field → Type 0
Lawful [] = Unit {0}
Lawful (f ∷ before) = Lawful before × Keeps before f

-- bytes that do not begin with a whole field
abbrev pub CutShort : List ℕ → Type 0
CutShort rest = (f : Field) (more : List ℕ) → rest ≢ spell f ++ more

-- bytes that do not begin with a field that keeps the rules
abbrev pub Broken : List Field → List ℕ → Type 0
Broken before rest = CutShort rest ⊎ ((f : Field) × (more : List ℕ) × (rest ≡ spell f ++ more) × Breaks before f)

-- what the fields say under a tag: the value, or what its absence means
abbrev pub says : List Field → ℕ → Option (List ℕ)
says fs t = option_or (look t fs) (default_of t)

-- the fields make the command: under each tag of the command they say what the command has there
abbrev pub Makes : List Field → Command → Type 0
Makes fs c = AllByRecursion (λ (f : Field). says fs f.0 ≡ Some f.1) (fields_of c)

-- a field is missing whose absence means nothing
abbrev pub Lacks : List Field → Type 0
Lacks fs = (t : ℕ) × Belongs fs t × (says fs t ≡ None)

-- a command that is refused at an offset
abbrev pub ill : ℕ → Fault
ill offset = fault CommandIllFormed offset

abbrev pub Ends : List Field → List ℕ → Result Command Fault → Type 0
Ends fs [] (Ok c) = Makes fs c
Ends fs [] (Err e) = (e ≡ ill (length (spells fs))) × Lacks fs
Ends fs (b ∷ bs) (Ok c) = ⊥
Ends fs (b ∷ bs) (Err e) = (e ≡ ill (length (spells fs))) × Broken fs (b ∷ bs)

-- the law: `answer` is a reading of the record
pub record Reads (record-bytes : List ℕ) (answer : Result Command Fault) : Type 0 where
  pub fields : List Field
  pub rest : List ℕ
  pub split : record-bytes ≡ spells fields ++ rest
  pub lawful : Lawful fields
  pub ends : Ends fields rest answer

-- what is written of a command reads as that command
abbrev pub WrittenIsRead : List ℕ → Result Command Fault → Type 0
WrittenIsRead record-bytes answer = (c : Command) → record-bytes ≡ wire c → answer ≡ Ok c

-- a record that reads as a command and has every field of its verb is what is written of that command
abbrev pub WholeIsWritten : List ℕ → Result Command Fault → Type 0
WholeIsWritten record-bytes answer =
    (fs : List Field) (c : Command) → record-bytes ≡ spells fs → Lawful fs → answer ≡ Ok c
    → ((t : ℕ) (v : List ℕ) → Has (fields_of c) (t, v) → look t fs ≢ None)
    → record-bytes ≡ wire c
