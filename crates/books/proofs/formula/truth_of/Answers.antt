use Rattle.std.proofs.Common.{sym, ap, ◌∙◌, subst}
use Rattle.books.proofs.Reading.{Worked, worked_none, worked_suits, worked_more, worked_one, worked_all}
use Rattle.books.proofs.formula.truth_of.Goals as goal

pub loop-item-init : goal.loop-item-init
loop-item-init c =
    let from = c.into_iter-item-iterator.ensures.into_iter_gives in
    let items = c.items_of-item-items.ensures in
    worked_none c.args.state.now (ap (λ i. i.rest.now) from ∙ items.rest) (ap (λ i. i.waiting) from ∙ items.waiting) c.new-stack.ensures

pub apply-requires : goal.apply-requires
apply-requires c = worked_suits c.loop-item.invariant c.in-Some.item c.in-Some.ensures.steps.1

pub loop-item-preserved : goal.loop-item-preserved
loop-item-preserved c = subst (Worked c.args.bytes.now c.args.state.now _ _) (sym c.apply.ensures) (worked_more c.loop-item.invariant c.in-Some.ensures.steps)

pub pop-requires : goal.pop-requires
pop-requires c = worked_one c.loop-item.invariant c.in-None.ensures.steps.0 c.requires

pub returns : goal.returns
returns c = c.pop.ensures.value ∙ worked_all c.loop-item.invariant c.in-None.ensures.steps.0 c.requires
