use Rattle.std.proofs.Common.{◌≡◌, ◌-◌, ◌++◌, string_bytes}
use Rattle.timetables.specs.Timetables.{lines}
use Rattle.timetables.proofs.table.Given as goal

abbrev pub invariant-loop-n : goal.invariant-loop-n
invariant-loop-n g l = string_bytes l.text ≡ string_bytes l.initial.text ++ lines (g.L.Language.says l.language) (l.n - 2)
