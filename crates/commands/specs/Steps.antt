-- What the reader's inner functions answer: the first field, values, tokens. The law of reading does not cite this file.
use Rattle.std.specs.Prelude.{ℕ, ◌+◌, ◌*◌, Bool, true, false, cond, List, [], ◌∷◌, length, take, drop, Some, None, Option, ◌==◌, nat_le, nat_lt}
use Rattle.std.specs.Option.{option_map, option_and_then as then}
use Rattle.states.specs.declared.report.Report.{Report}
use Rattle.grants.specs.declared.Mode.{Mode}
use Rattle.command_words.specs.declared.Verb.{Verb}
use Rattle.command_words.specs.declared.Outcome.{Outcome}
use Rattle.commands.specs.declared.fields.Parsed.{Parsed}
use Rattle.commands.specs.declared.fields.Field.{Field as Piece}
use Rattle.commands.specs.declared.tokens.Token as tokens
use Rattle.commands.specs.declared.tokens.Token.{Token}
use Rattle.command_words.specs.Fields.{Field}
use Rattle.command_words.specs.Letters.{named}
use Rattle.command_words.specs.Format.{verb_letter, verbs_all, mode_letter, modes_all, outcome_letter, outcomes_all}

-- what was read at the front of some bytes, seen in another way, and what stands behind it
abbrev pub parsed : {T X : Type 0} → (T → X) → Parsed T → X × List ℕ
parsed view p = (view p.value, p.rest.now)

-- the first field and what stands behind it, if it is whole
abbrev pub seen : Parsed Piece → Field × List ℕ
seen = parsed (λ (f : Piece). (f.tag, f.value.now))

abbrev pub cut_at : ℕ → ℕ → List ℕ → Option (Field × List ℕ)
cut_at t n r = cond (nat_le n (length r)) (Some ((t, take n r), drop n r)) None

abbrev pub cut : List ℕ → Option (Field × List ℕ)
cut [] = None
cut (t ∷ []) = None
cut (t ∷ h ∷ []) = None
cut (t ∷ h ∷ l ∷ r) = cut_at t (h * 256 + l) r

-- numbers of one, two and four bytes
abbrev pub alone : List ℕ → Option ℕ
alone [] = None
alone (x ∷ []) = Some x
alone (x ∷ y ∷ r) = None

abbrev pub pair : List ℕ → Option ℕ
pair [] = None
pair (x ∷ []) = None
pair (x ∷ y ∷ []) = Some (x * 256 + y)
pair (x ∷ y ∷ z ∷ r) = None

abbrev pub quad : List ℕ → Option ℕ
quad [] = None
quad (x ∷ []) = None
quad (x ∷ y ∷ []) = None
quad (x ∷ y ∷ z ∷ []) = None
quad (x ∷ y ∷ z ∷ w ∷ []) = Some (((x * 256 + y) * 256 + z) * 256 + w)
quad (x ∷ y ∷ z ∷ w ∷ v ∷ r) = None

-- letters
abbrev pub verb_named : ℕ → Option Verb
verb_named = named verb_letter verbs_all

abbrev pub mode_named : ℕ → Option Mode
mode_named = named mode_letter modes_all

abbrev pub outcome_named : ℕ → Option Outcome
outcome_named = named outcome_letter outcomes_all

-- states: the variables rise past `last`, up to 7, each with two bytes behind it; and what they tell
abbrev pub rising : ℕ → List ℕ → Bool
rising last [] = true
rising last (v ∷ []) = false
rising last (v ∷ h ∷ []) = false
rising last (v ∷ h ∷ l ∷ r) = cond (nat_lt last v) (cond (nat_lt v 8) (rising v r) false) false

abbrev pub unknown : Report
unknown = record { time = None; day = None; groups = None; path = None; level = None; status = None }

abbrev pub noted : Report → ℕ → ℕ → Report
noted s v n =
    cond (v == 2) (record { time = Some n; day = s.day; groups = s.groups; path = s.path; level = s.level; status = s.status })
    (cond (v == 3) (record { time = s.time; day = Some n; groups = s.groups; path = s.path; level = s.level; status = s.status })
    (cond (v == 4) (record { time = s.time; day = s.day; groups = Some n; path = s.path; level = s.level; status = s.status })
    (cond (v == 5) (record { time = s.time; day = s.day; groups = s.groups; path = Some n; level = s.level; status = s.status })
    (cond (v == 6) (record { time = s.time; day = s.day; groups = s.groups; path = s.path; level = Some n; status = s.status })
    (cond (v == 7) (record { time = s.time; day = s.day; groups = s.groups; path = s.path; level = s.level; status = Some n }) s)))))

abbrev pub reported : Report → List ℕ → Report
reported s [] = s
reported s (v ∷ []) = s
reported s (v ∷ h ∷ []) = s
reported s (v ∷ h ∷ l ∷ r) = reported (noted s v (h * 256 + l)) r

-- what a token says, its bytes as a list
pub data Said : Type 0 where
  verb : Verb → Said
  caller : ℕ → Said
  hook : ℕ → Said
  grantee : ℕ → Said
  execute : ℕ → Said
  onward : ℕ → Said
  mode : Mode → Said
  state : List ℕ → Said
  outcome : Outcome → Said
  number : ℕ → Said

abbrev pub sense : Token → Said
sense (tokens.TheVariants.Verb v) = verb v
sense (tokens.TheVariants.Caller n) = caller n
sense (tokens.TheVariants.Hook n) = hook n
sense (tokens.TheVariants.Grantee n) = grantee n
sense (tokens.TheVariants.Execute n) = execute n
sense (tokens.TheVariants.Onward n) = onward n
sense (tokens.TheVariants.Mode m) = mode m
sense (tokens.TheVariants.State s) = state s.now
sense (tokens.TheVariants.Outcome o) = outcome o
sense (tokens.TheVariants.Number n) = number n

abbrev pub tag_of : Said → ℕ
tag_of (verb v) = 1
tag_of (caller n) = 2
tag_of (hook n) = 3
tag_of (grantee n) = 4
tag_of (execute n) = 5
tag_of (onward n) = 6
tag_of (mode m) = 7
tag_of (state s) = 8
tag_of (outcome o) = 9
tag_of (number n) = 10

-- what a field of this tag and value says, if the value is of the tag's kind
abbrev pub worth : ℕ → List ℕ → Option Said
worth t v =
    cond (t == 1) (option_map verb (then verb_named (alone v)))
    (cond (t == 2) (option_map caller (alone v))
    (cond (t == 3) (option_map hook (alone v))
    (cond (t == 4) (option_map grantee (alone v))
    (cond (t == 5) (option_map execute (pair v))
    (cond (t == 6) (option_map onward (pair v))
    (cond (t == 7) (option_map mode (then mode_named (alone v)))
    (cond (t == 8) (cond (rising 1 v) (Some (state v)) None)
    (cond (t == 9) (option_map outcome (then outcome_named (alone v)))
    (cond (t == 10) (option_map number (quad v)) None)))))))))
