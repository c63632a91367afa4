use Rattle.std.proofs.Common.{◌≡◌, ℕ, List, IfOk, string_bytes, sym, ap, ◌∙◌, subst}
use Rattle.std.specs.Result.{result_unwrap_or}
use Rattle.arrayvec.specs.ArrayVec.{array_vec_len}
use Rattle.books.specs.declared.book.Book.{Book}
use Rattle.books.specs.Books.{checked}
use Rattle.frames.specs.Views.{parts_of}
use Rattle.frames.proofs.Lengths.{commands_within}
use Rattle.sessions.proofs.Starts.{same_text}
use Rattle.sessions.proofs.print.text_of.Goals as goal

pub run-requires : goal.run-requires
run-requires c = record {
  fresh = c.new-cabinet.ensures.held;
  within = commands_within c.args.file.now (parts_of c.in-Ok.parts) (sym c.in-Ok.ensures.is);
}

pub returns-in-Ok : goal.returns-in-Ok
returns-in-Ok c =
    let book = ap (λ (b : Book). b.bytes.now) c.new-cabinet.ensures.language ∙ ap (λ r. r.now) c.open.ensures.bytes in
    let count = ap (λ (b : Book). array_vec_len b.starts) c.new-cabinet.ensures.language ∙ c.open.ensures.count ∙ sym (ap (λ bs. result_unwrap_or (checked bs) 0) book) in
    subst (λ (t : List ℕ). IfOk c.run.result (λ s. string_bytes s ≡ t))
    (same_text c.args.file.now (parts_of c.in-Ok.parts) (array_vec_len c.new-cabinet.result.language.starts) c.new-cabinet.result.language.bytes.now c.in-Ok.ensures.is book count)
    c.run.ensures
