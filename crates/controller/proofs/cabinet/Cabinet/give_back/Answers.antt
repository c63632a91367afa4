use Rattle.std.proofs.Common.{[], ◌∷◌, refl, ◌∙◌}
use Rattle.loans.specs.declared.state.Event.TheVariants.{Return}
use Rattle.loans.specs.Events.{judged}
use Rattle.plain.specs.Record as plain
use Rattle.plain.specs.Record.{person, real_hook, found, hook_at}
use Rattle.plain.proofs.Checked.{stopped}
use Rattle.ledger.specs.Answers.{done}
use Rattle.ledger.specs.Ledgers.{owner_in}
use Rattle.ledger.proofs.Passing.{pass, refuses}
use Rattle.controller.specs.Cabinets.{world}
use Rattle.controller.proofs.Keys.{done_so}
use Rattle.controller.proofs.cabinet.Cabinet.give_back.Goals as goal

pub returns : goal.returns
returns g c =
    let s = c.args.self.now in
    let h = c.args.hook in
    let cs = person c.args.caller 2 ∷ real_hook h (owner_in s.ledger h) ∷ [] in
    let so = done_so s.ledger s.loans c.happen.new.self h Return cs (pass cs _ c.in_ok-check_return.ensures) c.happen.ensures.leaves in
    record { is = c.happen.ensures.is ∙ so.0; after = record { language = refl; held = so.1 } }

pub returns-in_err-check_return : goal.returns-in_err-check_return
returns-in_err-check_return g c =
    let s = c.args.self.now in
    let h = c.args.hook in
    let w = world s in
    let cs = person c.args.caller 2 ∷ real_hook h (owner_in s.ledger h) ∷ [] in
    let so = refuses (g.L.Language.size s.language) (g.L.Language.says s.language) w (plain.Return c.args.caller h) done (λ e. refl) c.from_residual.result _ c.from_residual.ensures.1
    (stopped cs (found (judged h (hook_at w h) Return) ∷ []) _ c.in_err-check_return.ensures) in
    record { is = so.0; after = record { language = refl; held = so.1 } }
