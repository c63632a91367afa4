-- What the reader's draft holds and becomes. The law of reading does not cite this file.
use Rattle.std.specs.Prelude.{ℕ, Bool, true, false, cond, ◌&&◌, List, [], ◌∷◌, Some, None, Option, ◌==◌, nat_lt}
use Rattle.std.specs.Option.{option_map, unwrap_or, option_and_then as then}
use Rattle.states.specs.declared.report.Report.{Report}
use Rattle.grants.specs.declared.Mode.TheVariants.{Expiring}
use Rattle.grants.specs.declared.terms.Terms.{Terms}
use Rattle.command_words.specs.declared.Verb.{Verb}
use Rattle.command_words.specs.declared.Verb.TheVariants as verbs
use Rattle.command_words.specs.declared.Command.{Command}
use Rattle.command_words.specs.declared.Command.TheVariants as commands
use Rattle.commands.specs.declared.fields.Parsed.{Parsed}
use Rattle.commands.specs.declared.drafts.Draft.{Draft}
use Rattle.command_words.specs.Fields.{Field, last_tag, look}
use Rattle.command_words.specs.Format.{tags_of}
use Rattle.commands.specs.Steps.{parsed, cut, alone, pair, quad, verb_named, mode_named, outcome_named, unknown, reported, Said, tag_of, worth}
use Rattle.commands.specs.Steps.Said.{verb, caller, hook, grantee, execute, onward, mode, state, outcome, number}

abbrev pub blank : Draft
blank = record { last = 0; verb = None; caller = None; hook = None; grantee = None; execute = 0; onward = 1; mode = Expiring; report = None; outcome = None; number = None }

abbrev pub any : List ℕ → ℕ → Bool
any [] t = false
any (x ∷ xs) t = cond (t == x) true (any xs t)

-- a tag that may come next, by the verb if it is known
abbrev pub belongs : Option Verb → ℕ → Bool
belongs None t = t == 1
belongs (Some v) t = any (tags_of v) t

-- the draft with what one more field says
abbrev pub noting : Draft → Said → Draft
noting d (verb v) = record { last = 1; verb = Some v; caller = d.caller; hook = d.hook; grantee = d.grantee; execute = d.execute; onward = d.onward; mode = d.mode; report = d.report; outcome = d.outcome; number = d.number }
noting d (caller n) = record { last = 2; verb = d.verb; caller = Some n; hook = d.hook; grantee = d.grantee; execute = d.execute; onward = d.onward; mode = d.mode; report = d.report; outcome = d.outcome; number = d.number }
noting d (hook n) = record { last = 3; verb = d.verb; caller = d.caller; hook = Some n; grantee = d.grantee; execute = d.execute; onward = d.onward; mode = d.mode; report = d.report; outcome = d.outcome; number = d.number }
noting d (grantee n) = record { last = 4; verb = d.verb; caller = d.caller; hook = d.hook; grantee = Some n; execute = d.execute; onward = d.onward; mode = d.mode; report = d.report; outcome = d.outcome; number = d.number }
noting d (execute n) = record { last = 5; verb = d.verb; caller = d.caller; hook = d.hook; grantee = d.grantee; execute = n; onward = d.onward; mode = d.mode; report = d.report; outcome = d.outcome; number = d.number }
noting d (onward n) = record { last = 6; verb = d.verb; caller = d.caller; hook = d.hook; grantee = d.grantee; execute = d.execute; onward = n; mode = d.mode; report = d.report; outcome = d.outcome; number = d.number }
noting d (mode m) = record { last = 7; verb = d.verb; caller = d.caller; hook = d.hook; grantee = d.grantee; execute = d.execute; onward = d.onward; mode = m; report = d.report; outcome = d.outcome; number = d.number }
noting d (state s) = record { last = 8; verb = d.verb; caller = d.caller; hook = d.hook; grantee = d.grantee; execute = d.execute; onward = d.onward; mode = d.mode; report = Some (reported unknown s); outcome = d.outcome; number = d.number }
noting d (outcome o) = record { last = 9; verb = d.verb; caller = d.caller; hook = d.hook; grantee = d.grantee; execute = d.execute; onward = d.onward; mode = d.mode; report = d.report; outcome = Some o; number = d.number }
noting d (number n) = record { last = 10; verb = d.verb; caller = d.caller; hook = d.hook; grantee = d.grantee; execute = d.execute; onward = d.onward; mode = d.mode; report = d.report; outcome = d.outcome; number = Some n }

-- the tag rises and may come next
abbrev pub may_come : Draft → ℕ → Bool
may_come d t = nat_lt d.last t && belongs d.verb t

abbrev pub admitted : Draft → Said → Option Draft
admitted d s = cond (may_come d (tag_of s)) (Some (noting d s)) None

-- one field of the record
abbrev pub left : Parsed Draft → Draft × List ℕ
left = parsed (λ (d : Draft). d)

abbrev pub with_rest : List ℕ → Draft → Draft × List ℕ
with_rest rest d = (d, rest)

abbrev pub taken_by : Draft → Field × List ℕ → Option (Draft × List ℕ)
taken_by d f = then (λ (s : Said). option_map (with_rest f.1) (admitted d s)) (worth f.0.0 f.0.1)

abbrev pub taken : Draft → List ℕ → Option (Draft × List ℕ)
taken d bs = then (taken_by d) (cut bs)

-- the terms, if the state is not missing
abbrev pub terms_with : Draft → Report → Terms
terms_with d r = record { execute = d.execute; onward = d.onward; mode = d.mode; report = r }

abbrev pub terms_in : Draft → Option Terms
terms_in d = option_map (terms_with d) d.report

-- the command, if no field is missing
abbrev pub closed_by : Draft → ℕ → Verb → Option Command
closed_by d c verbs.Issue = then (λ h. then (λ g. option_map (λ t. commands.Issue c h g t) (terms_in d)) d.grantee) d.hook
closed_by d c verbs.Amend = then (λ n. option_map (λ t. commands.Amend c n t) (terms_in d)) d.number
closed_by d c verbs.Withdraw = option_map (λ n. commands.Withdraw c n) d.number
closed_by d c verbs.Draw = then (λ h. then (λ s. option_map (λ o. commands.Draw c h s o) d.outcome) d.report) d.hook
closed_by d c verbs.Return = option_map (λ h. commands.Return c h) d.hook

abbrev pub closed : Draft → Option Command
closed d = then (λ v. then (λ c. closed_by d c v) d.caller) d.verb

-- the draft that a list of fields makes
abbrev pub draft_of : List Field → Draft
draft_of fs = record {
  last = last_tag fs;
  verb = then verb_named (then alone (look 1 fs));
  caller = then alone (look 2 fs);
  hook = then alone (look 3 fs);
  grantee = then alone (look 4 fs);
  execute = unwrap_or (then pair (look 5 fs)) 0;
  onward = unwrap_or (then pair (look 6 fs)) 1;
  mode = unwrap_or (then mode_named (then alone (look 7 fs))) Expiring;
  report = option_map (reported unknown) (look 8 fs);
  outcome = then outcome_named (then alone (look 9 fs));
  number = then quad (look 10 fs);
}
