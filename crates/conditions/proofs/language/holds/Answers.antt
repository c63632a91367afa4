use Rattle.std.proofs.Common.{sym, ◌∙◌}
use Rattle.conditions.specs.Steady.{is_true_lem, true_stays}
use Rattle.conditions.proofs.Kept.{kept_then_whole}
use Rattle.conditions.proofs.language.holds.Goals as goal

pub returns : goal.returns
returns g c =
    let l = c.args.language.now in
    let n = c.args.n in
    let s = c.args.state.now in
    let is = c.is_true_of.ensures in
    record {
      is = is;
      stays = λ t yes r more. true_stays ((g.L.Language.lawful l).steady n s t r more) (is_true_lem (g.L.Language.says l n s) (sym is ∙ yes));
      whole = kept_then_whole;
    }
