use Rattle.std.proofs.Common.{sym, ap, ◌∙◌, subst, arith}
use Rattle.numbered.specs.Rows.{AllBelow}
use Rattle.numbered.proofs.Laws.{below_without}
use Rattle.loans.specs.Hooks.{hook_of, loans_in}
use Rattle.loans.proofs.Changes.{state_at, ended}
use Rattle.loans.proofs.table.Loans.end.Goals as goal

pub invariant_of-self : goal.invariant_of-self
invariant_of-self c =
    let ls = c.args.self.now in
    let e = c.remove.ensures in record { sized = c.remove.auto.rows ∙ ls.sized; within = omega (arith, e.within, ls.within, ls.sized); rises = e.rises ls.rises; below = subst (AllBelow hook_of 32) (sym e.after) (below_without hook_of 32 c.args.hook (loans_in ls) ls.below) }

pub returns : goal.returns
returns c = λ k. ap (λ xs. state_at xs k) c.remove.ensures.after ∙ ended c.args.hook (loans_in c.args.self.now) c.args.self.now.rises k
