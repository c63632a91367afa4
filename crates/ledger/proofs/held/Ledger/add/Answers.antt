use Rattle.std.proofs.Common.{◌+◌, sym, ap, subst, arith}
use Rattle.numbered.specs.Rows.{AllBelow}
use Rattle.register.specs.Held.{held, numbers}
use Rattle.plain.specs.Record.{with_grants}
use Rattle.ledger.specs.Ledgers.{world_with}
use Rattle.ledger.proofs.Numbers.{below_end}
use Rattle.ledger.proofs.held.Ledger.add.Goals as goal

pub invariant_of-self : goal.invariant_of-self
invariant_of-self c =
    let l = c.args.self.now in
    let n = l.last in
    let below = subst (λ m. AllBelow numbers m (held l.grants)) (sym c.requires.next) l.low in
    let added = c.insert.ensures.law below c.requires.room in
    record { hooks = l.hooks; spent = omega (arith, c.requires.left); low = subst (AllBelow numbers (n + 1 + 1)) (sym added.1) (below_end numbers (n + 1) (n + 1 + 1) (held l.grants) c.args.grant l.low (omega arith) (omega (arith, c.requires.next))) }

pub returns : goal.returns
returns c hs =
    let l = c.args.self.now in
    let below = subst (λ m. AllBelow numbers m (held l.grants)) (sym c.requires.next) l.low in
    let added = c.insert.ensures.law below c.requires.room in
    ap (with_grants (world_with l hs) (l.last + 1)) added.1
