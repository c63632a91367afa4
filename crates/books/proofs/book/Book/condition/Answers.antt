use Rattle.std.proofs.Common.{◌≡◌, ◌<◌, is_some, ap, ◌∙◌, rules}
use Rattle.arrayvec.specs.ArrayVec.{array_vec_len}
use Rattle.books.specs.Books.{start}
use Rattle.books.specs.Readings.{tree}
use Rattle.books.proofs.Fields.{part_spelled}
use Rattle.books.proofs.book.Book.condition.Goals as goal

pub returns-clause-formed : goal.returns-clause-formed
returns-clause-formed c =
    let b = c.args.self.now in
    let k = c.in_ok-k.k in
    let inside : k < array_vec_len b.starts = search rules in
    let here : c.in_ok-at.field-0.now ≡ start b.bytes.now k = search rules in
    ap (λ l. is_some (tree l)) c.value_at.ensures.value ∙ part_spelled b.bytes.now (array_vec_len b.starts) k _ _ b.formed inside here c.stated_len-size.ensures
