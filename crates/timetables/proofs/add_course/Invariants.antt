use Rattle.std.proofs.Common.{◌≡◌, ◌++◌, string_bytes}
use Rattle.timetables.specs.Timetables.{truths, before, course}
use Rattle.timetables.proofs.add_course.Given as goal

abbrev pub invariant-loop-minute : goal.invariant-loop-minute
invariant-loop-minute g l =
    let f = truths (g.L.Language.says l.language) l.n in
    (l.before ≡ before f l.minute) × (string_bytes l.text ≡ string_bytes l.initial.text ++ course f l.minute)
