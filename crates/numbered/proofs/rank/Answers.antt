use Rattle.std.proofs.Common.{sym, ◌∙◌, arith}
use Rattle.numbered.proofs.Steps.{before_more, before_here, before_all}
use Rattle.numbered.proofs.rank.Goals as goal

pub returns-then-not-is_below : goal.returns-then-not-is_below
returns-then-not-is_below g c =
    let e = before_here g.T.Numbered.label c.args.n c.loop-i.i c.args.rows.now _ c.loop-i-test.true c.index-rows-i.is (sym c.is_below.ensures ∙ c.if-not-is_below.true) in
    let i = c.loop-i.invariant in
    record { is = omega (arith, e, i); within = omega arith }

pub loop-i-preserved : goal.loop-i-preserved
loop-i-preserved g c =
    let e = before_more g.T.Numbered.label c.args.n c.loop-i.i c.args.rows.now _ c.loop-i-test.true c.index-rows-i.is (sym c.is_below.ensures ∙ c.if-not-is_below.false) in
    let i = c.loop-i.invariant in
    omega (arith, e, i)

pub returns : goal.returns
returns g c =
    let e = before_all g.T.Numbered.label c.args.n c.loop-i.i c.args.rows.now c.loop-i-test.false in
    let i = c.loop-i.invariant in
    record { is = omega (arith, e, i); within = omega arith }
