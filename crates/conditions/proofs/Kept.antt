-- What is true of a kept part of a state is true of the state.
use Rattle.std.proofs.Common.{◌||◌, ltb}
use Rattle.states.specs.States.{names, kept}
use Rattle.states.specs.Parts.{only_less}
use Rattle.conditions.specs.Laws.{KeptThenWhole}
use Rattle.conditions.specs.Steady.{true_stays}

pub kept_then_whole : KeptThenWhole
kept_then_whole count truth l set n s r e = true_stays (l.steady n (kept set s) s r (only_less (λ v. ltb v 2 || names set v) s)) e
