use Rattle.std.proofs.Common.{take, sym, ◌∙◌, subst, arith}
use Rattle.numbered.specs.Rows.{Rises}
use Rattle.register.specs.Held.{numbers}
use Rattle.register.proofs.Chosen.{chosen_rises}
use Rattle.register.proofs.table.Register.retain.Goals as goal

pub invariant_of-self : goal.invariant_of-self
invariant_of-self c =
    let r = c.args.self.now in
    let rises = subst (Rises numbers) (sym c.choose-kept.ensures.is) (chosen_rises c.args.places (take r.count r.rows) r.rises) in
    record { sized = c.choose-kept.auto.rows ∙ r.sized; within = omega (arith, c.choose-kept.ensures.within, r.within); rises = rises }
