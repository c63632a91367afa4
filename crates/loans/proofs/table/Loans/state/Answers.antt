use Rattle.std.proofs.Common.{sym, ap, ◌∙◌, get_or-take}
use Rattle.numbered.proofs.Laws.{row_none}
use Rattle.loans.specs.declared.table.Loan.{Loan}
use Rattle.loans.specs.Hooks.{hook_of, where_lent, state_by, loans_in}
use Rattle.loans.proofs.Changes.{found_loan}
use Rattle.loans.proofs.Listed.{listed}
use Rattle.loans.proofs.table.Loans.state.Goals as goal

pub returns-in-Some : goal.returns-in-Some
returns-in-Some c =
    let ls = c.args.self.now in
    let i = c.in-Some.i in
    let place = sym c.place.ensures.is ∙ c.in-Some.is in
    let is =
    c.from.ensures
    ∙ ap (λ (l : Loan). where_lent l.lent) (sym (get_or-take ls.count ls.rows i _ c.in-Some.ensures.within))
    ∙ sym (ap state_by (found_loan c.args.hook i _ (loans_in ls) place)) in
    record { is = is; listed = is ∙ listed ls c.args.hook }

pub returns-in-None : goal.returns-in-None
returns-in-None c =
    let ls = c.args.self.now in
    let is = sym (ap state_by (row_none hook_of c.args.hook 0 (loans_in ls) (sym c.place.ensures.is ∙ c.in-None.is))) in
    record { is = is; listed = is ∙ listed ls c.args.hook }
