use Rattle.std.proofs.Common.{◌≡◌, length}
use Rattle.paths.specs.Plans.{NarrowedTo, FollowedTo}
use Rattle.paths.proofs.plan.Plan.new.Given as goal

abbrev pub invariant-loop-i : goal.invariant-loop-i
invariant-loop-i l = (length l.steps ≡ 96) × NarrowedTo l.fn.links l.i l.steps × FollowedTo l.fn.links l.i l.steps
