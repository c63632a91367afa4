-- What a call answers, written down, is the plain answer written down.
use Rattle.std.proofs.Common.{◌≡◌, ℕ, List, Some, None, Result, Option, sym, refl, subst}
use Rattle.faults.specs.declared.Fault.{Fault}
use Rattle.states.specs.declared.state.State.{State}
use Rattle.conditions.specs.declared.truth.Truth.{Truth}
use Rattle.plain.specs.Record as plain
use Rattle.plain.specs.Record.{World, Call, Number, Orphaned, Done, judged_by}
use Rattle.ledger.specs.Answers.{told, done}
use Rattle.controller.specs.declared.cabinet.Cabinet.{Cabinet}
use Rattle.controller.specs.declared.slip.Slip.{Slip}
use Rattle.controller.specs.declared.run.Call.{Call as Made}
use Rattle.controller.specs.declared.run.Answer.{Answer as Written}
use Rattle.controller.specs.declared.run.Answer.TheVariants as answers
use Rattle.controller.specs.Cabinets.{reply, Follows, slip_of, listed, spent}
use Rattle.controller.specs.Runs.{asked, shown, written, slip_shown, spent_shown}

module _ (w v : World) where
  pub number_told : (o : Option Fault) (n : ℕ) → let a = (judged_by w o (v, Number n)).1 in written answers.Number (told a) ≡ shown a
  number_told None n = refl
  number_told (Some e) n = refl

  pub orphans_told : (o : Option Fault) (n : ℕ) → let a = (judged_by w o (v, Orphaned n)).1 in written answers.Orphaned (told a) ≡ shown a
  orphans_told None n = refl
  orphans_told (Some e) n = refl

  pub done_told : (o : Option Fault) → let a = (judged_by w o (v, Done)).1 in written (λ _. answers.Done) (done a) ≡ shown a
  done_told None = refl
  done_told (Some e) = refl

  pub spent_told : (slip : Slip) (o : Option Fault) → let a = (judged_by w o (v, Done)).1 in spent_shown (spent slip a) ≡ shown a
  spent_told slip None = refl
  spent_told slip (Some e) = refl

  pub slip_told : (o : Option Fault) (h p : ℕ) (ns old : List ℕ) → let a = (judged_by w o (v, plain.Slip h p ns)).1 in slip_shown (slip_of a) (listed old a) ≡ shown a
  slip_told None h p ns old = refl
  slip_told (Some e) h p ns old = refl

-- the call that was made is the one that was asked for
pub made_so : {L : Type 0} (size : L → ℕ) (says : L → ℕ → State → Truth) (c d : Cabinet L) (k m : Made) (a : Result Written Fault) → k ≡ m
    → a ≡ shown (reply size says c (asked m)) → Follows size says c (asked m) d → (a ≡ shown (reply size says c (asked k))) × Follows size says c (asked k) d
made_so size says c d k m a e is f = subst (λ (x : Made). (a ≡ shown (reply size says c (asked x))) × Follows size says c (asked x) d) (sym e) (is, f)
