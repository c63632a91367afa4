use Rattle.std.proofs.Common.{rules, None, ap}
use Rattle.states.specs.States.{only_at}
use Rattle.states.proofs.Made.{made_of}
use Rattle.states.proofs.state.State.only.Goals as goal

pub returns : goal.returns
returns g c = λ t says. ap (λ vs. record { values = vs }) (made_of _ _ (only_at t c.args.self.now) 8 (λ i y q low k. search rules) c.from_fn.result None c.from_fn.ensures.items)
