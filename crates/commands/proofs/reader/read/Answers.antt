use Rattle.std.proofs.Common.{◌<◌, sym, ap, ◌∙◌, subst}
use Rattle.std.proofs.ByRecursion.{All-from_get_or}
use Rattle.commands.specs.Law.{Reads, WholeIsWritten}
use Rattle.commands.specs.Reading.{reading}
use Rattle.commands.proofs.Again.{written_again}
use Rattle.commands.proofs.Laws.{reading_law, reading_only}
use Rattle.commands.proofs.Spelling.{Bytes}
use Rattle.commands.proofs.Whole.{whole_written}
use Rattle.commands.proofs.reader.read.Goals as goal

pub returns : goal.returns
returns c =
    let bs = c.args.bytes.now in
    let b : Bytes c.args.bytes.now = All-from_get_or (λ x. x < 256) c.args.bytes.now 0 (λ i h. (c.type_inv.bytes i).fits) in
    let e = c.walk.ensures in
    record {
      is = e;
      law = subst (Reads c.args.bytes.now) (sym e) (reading_law bs b);
      only = λ q r. reading_only bs b q r ∙ sym e;
      written = λ x w. e ∙ ap reading w ∙ written_again x;
      whole = subst (WholeIsWritten c.args.bytes.now) (sym e) (whole_written bs b);
    }
