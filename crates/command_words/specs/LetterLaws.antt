-- Verbs, modes and outcomes are known again by their letters.
use Rattle.std.specs.Prelude.{refl}
use Rattle.grants.specs.declared.Mode.TheVariants.{Expiring, Resting}
use Rattle.command_words.specs.declared.Verb.TheVariants as verbs
use Rattle.command_words.specs.declared.Outcome.TheVariants.{Taken, Left}
use Rattle.command_words.specs.Letters.{Lettered}
use Rattle.command_words.specs.Format.{verbs_all, verb_letter, modes_all, mode_letter, outcomes_all, outcome_letter}

pub verb_lettered : Lettered verbs_all verb_letter
verb_lettered verbs.Issue = refl
verb_lettered verbs.Amend = refl
verb_lettered verbs.Withdraw = refl
verb_lettered verbs.Draw = refl
verb_lettered verbs.Return = refl

pub mode_lettered : Lettered modes_all mode_letter
mode_lettered Expiring = refl
mode_lettered Resting = refl

pub outcome_lettered : Lettered outcomes_all outcome_letter
outcome_lettered Taken = refl
outcome_lettered Left = refl
