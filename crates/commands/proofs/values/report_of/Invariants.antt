use Rattle.std.proofs.Common.{◌≡◌, drop}
use Rattle.commands.specs.Steps.{reported, unknown}
use Rattle.commands.proofs.Entries.{told_by}
use Rattle.commands.proofs.values.report_of.Given as goal

abbrev pub invariant-loop-v : goal.invariant-loop-v
invariant-loop-v l = told_by l.report (drop l.v-index l.entries) ≡ reported unknown l.value
