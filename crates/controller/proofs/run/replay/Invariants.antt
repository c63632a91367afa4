use Rattle.std.proofs.Common.{map}
use Rattle.controller.specs.Runs.{asked}
use Rattle.controller.proofs.Whole.{Sofar}
use Rattle.controller.proofs.run.replay.Given as goal

abbrev pub invariant-loop-i : goal.invariant-loop-i
invariant-loop-i g l = Sofar g.L.Language.size g.L.Language.says l.initial.cabinet.language (map asked l.calls) l.initial.answers l.i l.cabinet l.answers
