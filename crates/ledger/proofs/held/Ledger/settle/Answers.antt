use Rattle.std.proofs.Common.{ap, ◌∙◌}
use Rattle.plain.specs.Record.{with_grants}
use Rattle.ledger.specs.Ledgers.{world_with}
use Rattle.ledger.proofs.Sweeping.{stay_standing}
use Rattle.ledger.proofs.held.Ledger.settle.Goals as goal

pub returns : goal.returns
returns g c hs =
    let l = c.args.self.now in
    c.sweep.ensures hs ∙ ap (with_grants (world_with l hs) l.last) (stay_standing (g.L.Language.size c.args.language.now) (g.L.Language.says c.args.language.now) l c.standing-standing.result c.standing-standing.ensures)
