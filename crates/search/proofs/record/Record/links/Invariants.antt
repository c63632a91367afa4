use Rattle.std.proofs.Common.{◌≡◌, length}
use Rattle.search.proofs.Places.{LinkedTo}
use Rattle.search.proofs.record.Record.links.Given as goal

abbrev pub invariant-loop-i : goal.invariant-loop-i
invariant-loop-i l = (length l.links ≡ 96) × LinkedTo l.self.grants.now l.columns l.i l.links
