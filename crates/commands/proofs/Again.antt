-- What is written of a command reads as that command.
use Rattle.std.proofs.Common.{◌≡◌, ℕ, suc, ◌<◌, true, List, [], ◌∷◌, ◌++◌, length, is_some, Some, None, Ok, Option, sym, refl, ap, ◌∙◌, subst, append-nil, arith, lit<}
use Rattle.std.specs.Option.{ok_or}
use Rattle.std.proofs.lemmas.Bool.{lt-ltb}
use Rattle.states.specs.declared.report.Report.{Report}
use Rattle.grants.specs.declared.Mode.{Mode}
use Rattle.command_words.specs.declared.Outcome.{Outcome}
use Rattle.command_words.specs.declared.Command.{Command}
use Rattle.command_words.specs.declared.Command.TheVariants.{Issue, Amend, Withdraw, Draw, Return}
use Rattle.command_words.specs.LetterLaws.{mode_lettered, outcome_lettered}
use Rattle.command_words.specs.Format.{mode_letter, outcome_letter, entry_of, entries, fields_of, wire}
use Rattle.commands.specs.Steps.{rising, worth}
use Rattle.commands.specs.Reading.{reading}
use Rattle.commands.specs.Law.{Makes, ill}
use Rattle.commands.proofs.Walks.{walk_end}
use Rattle.commands.proofs.Sound.{Kept}
use Rattle.commands.proofs.Making.{closed_since}
use Rattle.commands.proofs.Laws.{walk_over}

-- the variables of a report rise
rise : (last v : ℕ) (o : Option ℕ) (rest : List ℕ) → last < v → v < 8 → ((l : ℕ) → l < suc v → rising l rest ≡ true) → rising last (entry_of v o ++ rest) ≡ true
rise last v None rest h k r = r last (omega arith)
rise last v (Some n) rest h k r = rw (lt-ltb last v h, lt-ltb v 8 k) (r v (omega arith))

rise_end : (last v : ℕ) (o : Option ℕ) → last < v → v < 8 → rising last (entry_of v o) ≡ true
rise_end last v o h k = subst (λ (xs : List ℕ). rising last xs ≡ true) (append-nil (entry_of v o)) (rise last v o [] h k (λ l q. refl))

rising_again : (r : Report) → rising 1 (entries r) ≡ true
rising_again r =
    rise 1 2 r.time _ (lit< tt) (lit< tt) (λ a p. rise a 3 r.day _ p (lit< tt) (λ b q. rise b 4 r.groups _ q (lit< tt)
    (λ c s. rise c 5 r.path _ s (lit< tt) (λ d t. rise d 6 r.level _ t (lit< tt) (λ e u. rise_end e 7 r.status u (lit< tt))))))

state_kept : (r : Report) → is_some (worth 8 (entries r)) ≡ true
state_kept r = rw (rising_again r)

mode_kept : (m : Mode) → is_some (worth 7 (mode_letter m ∷ [])) ≡ true
mode_kept m = rw (mode_lettered m)

outcome_kept : (o : Outcome) → is_some (worth 9 (outcome_letter o ∷ [])) ≡ true
outcome_kept o = rw (outcome_lettered o)

-- the fields of a command keep the rules
kept_of_lem : (c : Command) → Kept (fields_of c)
kept_of_lem (Issue c h g t) = ((((((((tt, refl), refl), refl), refl), refl), refl), mode_kept t.mode), state_kept t.report)
kept_of_lem (Amend c n t) = (((((((tt, refl), refl), refl), refl), mode_kept t.mode), state_kept t.report), refl)
kept_of_lem (Withdraw c n) = (((tt, refl), refl), refl)
kept_of_lem (Draw c h r o) = (((((tt, refl), refl), refl), state_kept r), outcome_kept o)
kept_of_lem (Return c h) = (((tt, refl), refl), refl)

makes_of : (c : Command) → Makes (fields_of c) c
makes_of (Issue c h g t) = (refl, (refl, (refl, (refl, (refl, (refl, (refl, (refl, tt))))))))
makes_of (Amend c n t) = (refl, (refl, (refl, (refl, (refl, (refl, (refl, tt)))))))
makes_of (Withdraw c n) = (refl, (refl, (refl, tt)))
makes_of (Draw c h r o) = (refl, (refl, (refl, (refl, (refl, tt)))))
makes_of (Return c h) = (refl, (refl, (refl, tt)))

pub written_again : (c : Command) → reading (wire c) ≡ Ok c
written_again c =
    ap reading (sym (append-nil (wire c))) ∙ walk_over (fields_of c) [] (kept_of_lem c)
    ∙ walk_end (fields_of c) (length (wire c)) [] refl ∙ ap (λ (o : Option Command). ok_or o (ill (length (wire c)))) (closed_since (fields_of c) c (makes_of c))
