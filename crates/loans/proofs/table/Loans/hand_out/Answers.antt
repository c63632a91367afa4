use Rattle.std.proofs.Common.{sym, ap, ◌∙◌, subst, length-set, get_or-take}
use lib.Seq.{take-set-lt}
use Rattle.numbered.specs.Rows.{Rises, AllBelow}
use Rattle.numbered.proofs.Laws.{rises_set, below_set}
use Rattle.loans.specs.declared.table.Loan.{Loan}
use Rattle.loans.specs.Hooks.{hook_of, loans_in, went_out}
use Rattle.loans.proofs.Changes.{state_at, handed, unmoved}
use Rattle.loans.proofs.table.Loans.hand_out.Goals as goal

pub invariant_of-self : goal.invariant_of-self
invariant_of-self c =
    let ls = c.args.self.now in
    let i = c.in-Some.i in
    let new = c.go_out.new.self in
    let lt = c.in-Some.ensures.within in
    let made = take-set-lt ls.count ls.rows i new lt in
    let number = ap (λ (l : Loan). l.hook) (c.go_out.ensures ∙ ap went_out (sym (get_or-take ls.count ls.rows i _ lt))) in record { sized = length-set ls.rows i new ∙ ls.sized; within = ls.within; rises = subst (Rises hook_of) (sym made) (rises_set hook_of 0 i new _ (loans_in ls) number ∙ ls.rises); below = subst (AllBelow hook_of 32) (sym made) (below_set hook_of 32 i new _ (loans_in ls) number ∙ ls.below) }

pub returns-in-Some : goal.returns-in-Some
returns-in-Some c =
    let ls = c.args.self.now in
    let i = c.in-Some.i in
    let new = c.go_out.new.self in
    let lt = c.in-Some.ensures.within in
    let is = sym c.place.ensures.is ∙ c.in-Some.is in
    λ k.
    ap (λ xs. state_at xs k) (take-set-lt ls.count ls.rows i new lt)
    ∙ handed c.args.hook i _ (loans_in ls) is new (c.go_out.ensures ∙ ap went_out (sym (get_or-take ls.count ls.rows i _ lt))) k

pub returns-in_default : goal.returns-in_default
returns-in_default c = unmoved c.args.hook (loans_in c.args.self.now) (sym c.place.ensures.is ∙ c.in_default.is)
