-- The format of a command record: the tags of each verb, the kind of each tag's value, what the absence of
-- a field means, and the fields of a command.
use Rattle.std.specs.Prelude.{ℕ, ◌/◌, ◌%◌, cond, List, [], ◌∷◌, ◌++◌, Some, None, Option, ◌==◌}
use Rattle.states.specs.declared.report.Report.{Report}
use Rattle.grants.specs.declared.Mode.{Mode}
use Rattle.grants.specs.declared.Mode.TheVariants.{Expiring, Resting}
use Rattle.grants.specs.declared.terms.Terms.{Terms}
use Rattle.command_words.specs.declared.Verb.{Verb}
use Rattle.command_words.specs.declared.Verb.TheVariants as verbs
use Rattle.command_words.specs.declared.Outcome.{Outcome}
use Rattle.command_words.specs.declared.Outcome.TheVariants.{Taken, Left}
use Rattle.command_words.specs.declared.Command.{Command}
use Rattle.command_words.specs.declared.Command.TheVariants as commands
use Rattle.command_words.specs.Fields.{Field, spells}

-- the letters, as bytes: I, A, W, D, R of the verbs, E and R of the modes, T and L of the outcomes
abbrev pub verb_letter : Verb → ℕ
verb_letter verbs.Issue = 73
verb_letter verbs.Amend = 65
verb_letter verbs.Withdraw = 87
verb_letter verbs.Draw = 68
verb_letter verbs.Return = 82

abbrev pub mode_letter : Mode → ℕ
mode_letter Expiring = 69
mode_letter Resting = 82

abbrev pub outcome_letter : Outcome → ℕ
outcome_letter Taken = 84
outcome_letter Left = 76

-- all the words of each kind
abbrev pub verbs_all : List Verb
verbs_all = verbs.Issue ∷ verbs.Amend ∷ verbs.Withdraw ∷ verbs.Draw ∷ verbs.Return ∷ []

abbrev pub modes_all : List Mode
modes_all = Expiring ∷ Resting ∷ []

abbrev pub outcomes_all : List Outcome
outcomes_all = Taken ∷ Left ∷ []

abbrev pub verb_of : Command → Verb
verb_of (commands.Issue caller hook grantee terms) = verbs.Issue
verb_of (commands.Amend caller number terms) = verbs.Amend
verb_of (commands.Withdraw caller number) = verbs.Withdraw
verb_of (commands.Draw caller hook report outcome) = verbs.Draw
verb_of (commands.Return caller hook) = verbs.Return

abbrev pub caller_of : Command → ℕ
caller_of (commands.Issue caller hook grantee terms) = caller
caller_of (commands.Amend caller number terms) = caller
caller_of (commands.Withdraw caller number) = caller
caller_of (commands.Draw caller hook report outcome) = caller
caller_of (commands.Return caller hook) = caller

-- the tags of the fields that each verb has: 1 verb, 2 caller, 3 hook, 4 grantee, 5 condition for drawing,
-- 6 condition for granting on, 7 mode, 8 state, 9 outcome, 10 number of a grant
abbrev pub tags_of : Verb → List ℕ
tags_of verbs.Issue = 1 ∷ 2 ∷ 3 ∷ 4 ∷ 5 ∷ 6 ∷ 7 ∷ 8 ∷ []
tags_of verbs.Amend = 1 ∷ 2 ∷ 5 ∷ 6 ∷ 7 ∷ 8 ∷ 10 ∷ []
tags_of verbs.Withdraw = 1 ∷ 2 ∷ 10 ∷ []
tags_of verbs.Draw = 1 ∷ 2 ∷ 3 ∷ 8 ∷ 9 ∷ []
tags_of verbs.Return = 1 ∷ 2 ∷ 3 ∷ []

-- kinds of values: so many bytes, one of some letters, a state; and no value at all for a tag that is unknown
pub data Kind : Type 0 where
  bytes : ℕ → Kind
  letter : List ℕ → Kind
  state : Kind
  unknown : Kind

abbrev pub kind_of : ℕ → Kind
kind_of t =
    cond (t == 1) (letter (73 ∷ 65 ∷ 87 ∷ 68 ∷ 82 ∷ []))
    (cond (t == 2) (bytes 1)
    (cond (t == 3) (bytes 1)
    (cond (t == 4) (bytes 1)
    (cond (t == 5) (bytes 2)
    (cond (t == 6) (bytes 2)
    (cond (t == 7) (letter (69 ∷ 82 ∷ []))
    (cond (t == 8) state
    (cond (t == 9) (letter (84 ∷ 76 ∷ []))
    (cond (t == 10) (bytes 4) unknown)))))))))

-- what the absence of a field means: condition 0 for drawing, condition 1 for granting on, letter E;
-- the absence of any other means nothing
abbrev pub default_of : ℕ → Option (List ℕ)
default_of t =
    cond (t == 5) (Some (0 ∷ 0 ∷ []))
    (cond (t == 6) (Some (0 ∷ 1 ∷ []))
    (cond (t == 7) (Some (69 ∷ [])) None))

-- numbers of two and of four bytes, the high byte first
abbrev pub pair_of : ℕ → List ℕ
pair_of n = (n / 256) ∷ (n % 256) ∷ []

abbrev pub quad_of : ℕ → List ℕ
quad_of n = (n / 256 / 256 / 256) ∷ (n / 256 / 256 % 256) ∷ (n / 256 % 256) ∷ (n % 256) ∷ []

-- the bytes of a state: each known variable from 2 to 7 with its value
abbrev pub entry_of : ℕ → Option ℕ → List ℕ
entry_of v None = []
entry_of v (Some n) = v ∷ pair_of n

abbrev pub entries : Report → List ℕ
entries r = entry_of 2 r.time ++ (entry_of 3 r.day ++ (entry_of 4 r.groups ++ (entry_of 5 r.path ++ (entry_of 6 r.level ++ entry_of 7 r.status))))

-- the fields that say the terms of a grant, the last one first, behind those `before`
abbrev pub fields_of_terms : Terms → List Field → List Field
fields_of_terms terms before =
    (8, entries terms.report) ∷ (7, mode_letter terms.mode ∷ []) ∷ (6, pair_of terms.onward) ∷ (5, pair_of terms.execute) ∷ before

-- all the fields of a command, the last one first
abbrev pub fields_of : Command → List Field
fields_of (commands.Issue caller hook grantee terms) =
    fields_of_terms terms ((4, grantee ∷ []) ∷ (3, hook ∷ []) ∷ (2, caller ∷ []) ∷ (1, verb_letter verbs.Issue ∷ []) ∷ [])
fields_of (commands.Amend caller number terms) =
    (10, quad_of number) ∷ fields_of_terms terms ((2, caller ∷ []) ∷ (1, verb_letter verbs.Amend ∷ []) ∷ [])
fields_of (commands.Withdraw caller number) = (10, quad_of number) ∷ (2, caller ∷ []) ∷ (1, verb_letter verbs.Withdraw ∷ []) ∷ []
fields_of (commands.Draw caller hook report outcome) =
    (9, outcome_letter outcome ∷ []) ∷ (8, entries report) ∷ (3, hook ∷ []) ∷ (2, caller ∷ []) ∷ (1, verb_letter verbs.Draw ∷ []) ∷ []
fields_of (commands.Return caller hook) = (3, hook ∷ []) ∷ (2, caller ∷ []) ∷ (1, verb_letter verbs.Return ∷ []) ∷ []

-- the bytes of a command that is written whole
abbrev pub wire : Command → List ℕ
wire c = spells (fields_of c)
