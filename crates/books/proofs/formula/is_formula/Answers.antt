use Rattle.std.proofs.Common.{sym, ◌∙◌}
use Rattle.books.proofs.Reading.{read_on, read_ended}
use Rattle.books.proofs.formula.is_formula.Goals as goal

pub loop-preserved : goal.loop-preserved
loop-preserved c = read_on c.next.result c.loop.invariant c.next.ensures.steps (sym c.is_some.ensures ∙ c.loop-test.true)

pub returns : goal.returns
returns c = c.is_ended.ensures ∙ read_ended _ _ c.next.result c.loop.invariant c.next.ensures.steps (sym c.is_some.ensures ∙ c.loop-test.false)
