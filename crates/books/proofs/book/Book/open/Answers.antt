use Rattle.books.proofs.Fields.{opened, meant}
use Rattle.books.proofs.book.Book.open.Goals as goal

pub invariant_of-result : goal.invariant_of-result
invariant_of-result c =
    let both = opened c.args.bytes.now c.starts_of.result c.new.result c.unwrap_or-starts.result c.starts_of.ensures.is c.starts_of.ensures.placed c.new.ensures c.unwrap_or-starts.ensures in
    record { formed = both.0; placed = both.1 }

pub returns-clause-meant : goal.returns-clause-meant
returns-clause-meant c = meant
