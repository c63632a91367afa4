use Rattle.std.proofs.Common.{length}
use Rattle.paths.proofs.Walks.{NoneBut}
use Rattle.paths.specs.Memories.{Knows, Inside}
use Rattle.paths.proofs.walk.+walk.Given as goal

abbrev pub decreases-walk : goal.decreases-walk
decreases-walk l = length l.path.now

abbrev pub invariant-loop-i : goal.invariant-loop-i
invariant-loop-i l =
    NoneBut l.net.plan.now l.net.target l.i-iterator.rest l.search.allowed l.search.person (length l.path)
    × Knows l.net.plan.now l.net.target l.memory
    × Inside l.places l.i-iterator.rest
