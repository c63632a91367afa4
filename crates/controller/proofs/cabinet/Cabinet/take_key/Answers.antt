use Rattle.std.proofs.Common.{[], refl, ◌∙◌}
use Rattle.loans.specs.declared.state.Event.TheVariants.{Take}
use Rattle.controller.proofs.Keys.{done_so}
use Rattle.controller.proofs.cabinet.Cabinet.take_key.Goals as goal

pub returns : goal.returns
returns g c =
    let s = c.args.self.now in
    let so = done_so s.ledger s.loans c.happen.new.self c.args.hook (Take c.args.person) [] refl c.happen.ensures.leaves in
    record { is = c.happen.ensures.is ∙ so.0; after = record { language = refl; held = so.1 } }
