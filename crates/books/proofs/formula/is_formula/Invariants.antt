use Rattle.books.proofs.Reading.{Read}
use Rattle.books.proofs.formula.is_formula.Given as goal

abbrev pub invariant-loop : goal.invariant-loop
invariant-loop l = Read l.bytes l.items.rest.now l.items.waiting
