use Rattle.command_words.specs.declared.Outcome.TheVariants.{Taken, Left}
use Rattle.sessions.proofs.Draws.{never_back}
use Rattle.sessions.proofs.perform.spend.Goals as goal

pub unreachable-requires : goal.unreachable-requires
unreachable-requires g c = never_back g.L.Language.size g.L.Language.says c.args.cabinet.now c.args.slip Taken c.in-Err.field-0 c.requires c.in-Err.ensures.is

pub unreachable-requires-in-Err-leave : goal.unreachable-requires-in-Err-leave
unreachable-requires-in-Err-leave g c = never_back g.L.Language.size g.L.Language.says c.args.cabinet.now c.args.slip Left c.in-Err-leave.field-0 c.requires c.in-Err-leave.ensures.is
