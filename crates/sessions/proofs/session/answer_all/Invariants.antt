use Rattle.std.proofs.Common.{length, string_bytes}
use Rattle.sessions.proofs.Walk.{Sofar}
use Rattle.sessions.proofs.session.answer_all.Given as goal

abbrev pub invariant-loop-rest : goal.invariant-loop-rest
invariant-loop-rest g l = Sofar g.L.Language.size g.L.Language.says l.initial.cabinet l.end l.commands l.cabinet l.count l.rest (string_bytes l.text)

abbrev pub decreases-loop-rest : goal.decreases-loop-rest
decreases-loop-rest g l = length l.rest
