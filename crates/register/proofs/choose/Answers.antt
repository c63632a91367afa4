use Rattle.std.proofs.Common.{◌≡◌, ◌<◌, length, take, sym, ap, ◌∙◌, arith}
use Rattle.grants.specs.Blank.{blank}
use Rattle.register.specs.Held.{chosen}
use Rattle.register.proofs.Chosen.{choosing_no, choosing_yes}
use Rattle.register.proofs.choose.Goals as goal
use Rattle.register.proofs.choose.Goals.{then-has, else-has}

pub loop-i-preserved : goal.loop-i-preserved
loop-i-preserved c =
    let here : c.loop-i.i < length c.args.rows.now = omega (arith, c.requires.within) in
    elim c.if-has.branch [
      | then-has w ↦
          rw (w.rows-is, w.next-is) (choosing_yes c.args.places _ _ _ _ _ c.loop-i.invariant here c.loop-i.auto.rows (sym c.has.ensures ∙ w.if-has.true))
      | else-has w ↦ rw (w.rows-is, w.next-is) (choosing_no c.args.places _ _ _ _ blank c.loop-i.invariant here (sym c.has.ensures ∙ w.if-has.false))
    ]

pub returns : goal.returns
returns c =
    let ended : c.loop-i.i ≡ c.args.count = omega arith in
    record { is = c.loop-i.invariant.front ∙ ap (λ n. chosen c.args.places (take n c.args.rows.now)) ended; within = omega (arith, c.loop-i.invariant.behind) }
