use Rattle.std.proofs.Common.{rules, ◌||◌, ltb}
use Rattle.states.specs.States.{names}
use Rattle.states.proofs.state.State.kept.Goals as goal

pub returns : goal.returns
returns c = c.only.ensures (λ v. ltb v 2 || names c.args.set v) (λ v b h k. search rules)
