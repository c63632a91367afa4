use Rattle.std.proofs.Common.{◌+◌, sym, subst}
use Rattle.numbered.specs.Rows.{AllBelow}
use Rattle.numbered.proofs.Laws.{below_without}
use Rattle.register.specs.Held.{held, numbers}
use Rattle.ledger.proofs.held.Ledger.take_out.Goals as goal

pub invariant_of-self : goal.invariant_of-self
invariant_of-self c =
    let l = c.args.self.now in
    record { hooks = l.hooks; spent = l.spent; low = subst (AllBelow numbers (l.last + 1)) (sym c.remove.ensures.after) (below_without numbers (l.last + 1) c.args.number (held l.grants) l.low) }
