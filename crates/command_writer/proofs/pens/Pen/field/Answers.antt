use Rattle.std.proofs.Common.{◌≡◌, ℕ, ◌/◌, ◌%◌, List, [], ◌∷◌, length, slice_index_or, ap, ◌∙◌, arith}
use Rattle.command_writer.specs.Pens.{puts}
use Rattle.command_writer.proofs.Puts.{puts-++}
use Rattle.command_writer.proofs.pens.Pen.field.Goals as goal

pub returns : goal.returns
returns c =
    let p = c.args.self.now.bytes.items in
    let v = c.args.value.now in
    let b = c.to_be_bytes.result in
    let high : slice_index_or c.to_be_bytes.result 0 0 ≡ length c.args.value.now / 256 = ap (λ (l : List ℕ). slice_index_or l 0 0) c.to_be_bytes.ensures ∙ omega arith in
    let low : slice_index_or c.to_be_bytes.result 1 0 ≡ length c.args.value.now % 256 = ap (λ (l : List ℕ). slice_index_or l 1 0) c.to_be_bytes.ensures in
    c.put-2.ensures ∙ ap (λ (q : List ℕ). puts q v) c.put.ensures ∙ puts-++ p (c.args.tag ∷ slice_index_or b 0 0 ∷ slice_index_or b 1 0 ∷ []) v
    ∙ (λ i. puts p (c.args.tag ∷ high i ∷ low i ∷ v))
