use Rattle.std.proofs.Common.{◌∙◌}
use Rattle.command_writer.proofs.writer.reread.Goals as goal

pub returns : goal.returns
returns c = c.read.ensures.written c.args.command (c.first.ensures ∙ c.write-end.ensures.front)
