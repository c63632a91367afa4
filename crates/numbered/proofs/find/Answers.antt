use Rattle.std.proofs.Common.{sym, ◌∙◌}
use Rattle.numbered.proofs.Steps.{place_here, place_more, place_all}
use Rattle.numbered.proofs.find.Goals as goal

pub returns-then-is_numbered : goal.returns-then-is_numbered
returns-then-is_numbered g c =
    let here = place_here g.T.Numbered.label c.args.n c.loop-i.i c.args.rows.now _ c.loop-i-test.true c.index-rows-i.is (sym c.is_numbered.ensures ∙ c.if-is_numbered.true) in
    record { is = sym here ∙ c.loop-i.invariant; within = c.loop-i-test.true }

pub loop-i-preserved : goal.loop-i-preserved
loop-i-preserved g c =
    place_more g.T.Numbered.label c.args.n c.loop-i.i c.args.rows.now _ c.loop-i-test.true c.index-rows-i.is (sym c.is_numbered.ensures ∙ c.if-is_numbered.false)
    ∙ c.loop-i.invariant

pub returns : goal.returns
returns g c =
    record { is = sym (place_all g.T.Numbered.label c.args.n c.loop-i.i c.args.rows.now c.loop-i-test.false) ∙ c.loop-i.invariant; within = tt }
