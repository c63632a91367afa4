use Rattle.std.proofs.Common.{◌%◌, false, cond, eqb, length, ◌∙◌}
use Rattle.commands.proofs.Entries.{climbing, rising_by}
use Rattle.commands.proofs.values.is_state.Goals as goal

pub loop-v-init : goal.loop-v-init
loop-v-init c = (λ i. cond (climbing 1 (c.as_chunks.ensures.front i)) (eqb (length c.args.value.now % 3) 0) false) ∙ rising_by 1 c.args.value.now
