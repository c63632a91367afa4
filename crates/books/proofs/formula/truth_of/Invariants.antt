use Rattle.books.proofs.Reading.{Worked}
use Rattle.books.proofs.formula.truth_of.Given as goal

abbrev pub invariant-loop-item : goal.invariant-loop-item
invariant-loop-item l = Worked l.bytes l.state l.item-iterator.rest.now l.item-iterator.waiting l.stack.values.items
