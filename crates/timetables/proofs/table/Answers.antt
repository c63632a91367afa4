use Rattle.std.proofs.Common.{string_bytes}
use Rattle.timetables.proofs.Texts.{lines_none, lines_more}
use Rattle.timetables.proofs.table.Goals as goal

pub loop-n-init : goal.loop-n-init
loop-n-init g c = lines_none (g.L.Language.says c.args.language.now) (string_bytes c.in_ok-text.text)

pub loop-n-preserved : goal.loop-n-preserved
loop-n-preserved g c = lines_more (g.L.Language.says c.args.language.now) _ (string_bytes c.loop-n.text) _ c.loop-n.n c.loop-n.auto.n c.loop-n.invariant c.in_ok-add_line.ensures
