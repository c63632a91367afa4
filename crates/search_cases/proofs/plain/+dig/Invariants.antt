use Rattle.std.proofs.Common.{◌-◌}
use Rattle.search_cases.proofs.plain.+dig.Given as goal

abbrev pub decreases-dig : goal.decreases-dig
decreases-dig g l = l.want - l.have
