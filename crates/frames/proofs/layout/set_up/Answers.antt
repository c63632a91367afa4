use Rattle.std.proofs.Common.{◌<◌, sym, ◌∙◌, subst}
use Rattle.std.proofs.ByRecursion.{All-from_get_or}
use Rattle.commands.proofs.Spelling.{Bytes}
use Rattle.frames.specs.Law.{Framed}
use Rattle.frames.proofs.Framing.{framed}
use Rattle.frames.proofs.Single.{framed_only}
use Rattle.frames.proofs.layout.set_up.Goals as goal

pub returns : goal.returns
returns c =
    let b : Bytes c.args.file.now = All-from_get_or (λ x. x < 256) c.args.file.now 0 (λ i h. (c.type_inv.file i).fits) in
    let e = c.lay_out.ensures in
    record {
      is = e;
      law = subst (Framed c.args.file.now) (sym e) (framed c.args.file.now b);
      only = λ q f. framed_only c.args.file.now b q f ∙ sym e;
    }
