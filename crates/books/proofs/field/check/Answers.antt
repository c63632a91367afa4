use Rattle.std.proofs.Common.{◌≡◌, sym, subst, arith, rules}
use Rattle.books.specs.Books.{checked, Judged}
use Rattle.books.proofs.Fields.{judged}
use Rattle.books.proofs.Spelling.{spelled}
use Rattle.books.proofs.field.check.Goals as goal

pub returns-clause-law : goal.returns-clause-law
returns-clause-law c =
    let bs = c.args.bytes.now in
    let is : c.map.result ≡ checked bs = search rules in
    subst (Judged bs) (sym is) (judged bs (λ i. omega (arith, c.type_inv.bytes i)))

pub returns-clause-spelled : goal.returns-clause-spelled
returns-clause-spelled c = spelled
