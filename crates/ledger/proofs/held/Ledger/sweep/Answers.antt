use Rattle.std.proofs.Common.{◌+◌, sym, ap, subst}
use Rattle.numbered.specs.Rows.{AllBelow}
use Rattle.register.specs.Held.{held, numbers}
use Rattle.plain.specs.Record.{with_grants}
use Rattle.ledger.specs.Ledgers.{world_with}
use Rattle.ledger.proofs.Sweeping.{swept_rows, below_stay}
use Rattle.ledger.proofs.held.Ledger.sweep.Goals as goal

pub invariant_of-self : goal.invariant_of-self
invariant_of-self c =
    let l = c.args.self.now in
    let after = swept_rows c.rows.result.now (held l.grants) _ c.staying-places.result c.args.standing c.rows.ensures c.staying-places.ensures c.retain.ensures in
    record { hooks = l.hooks; spent = l.spent; low = subst (AllBelow numbers (l.last + 1)) (sym after) (below_stay (l.last + 1) c.args.standing 0 (held l.grants) l.low) }

pub returns : goal.returns
returns c hs =
    let l = c.args.self.now in
    ap (with_grants (world_with l hs) l.last) (swept_rows c.rows.result.now (held l.grants) _ c.staying-places.result c.args.standing c.rows.ensures c.staying-places.ensures c.retain.ensures)
