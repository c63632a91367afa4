use Rattle.std.proofs.Common.{length}
use Rattle.chains.proofs.chain.+is_valid.Given as goal

abbrev pub decreases-is_valid : goal.decreases-is_valid
decreases-is_valid g l = length l.chain.now
