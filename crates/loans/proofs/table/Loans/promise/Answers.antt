use Rattle.std.proofs.Common.{◌≡◌, ℕ, ◌<◌, List, Result, sym, ap, ◌∙◌, subst, arith}
use Rattle.numbered.specs.declared.NotAdded.{NotAdded}
use Rattle.numbered.specs.Rows.{AllBelow, put}
use Rattle.numbered.specs.Answers.{insertion, after_insertion}
use Rattle.numbered.proofs.Laws.{below_put}
use Rattle.loans.specs.declared.table.Lent.TheVariants.{Promised}
use Rattle.loans.specs.declared.table.Loan.{Loan}
use Rattle.loans.specs.declared.table.Loans.{Loans}
use Rattle.loans.specs.declared.state.HookState.TheVariants.{In}
use Rattle.loans.specs.Hooks.{hook_of, loans_in, state_of}
use Rattle.loans.proofs.Changes.{state_at, added, begun}
use Rattle.loans.proofs.table.Loans.promise.Goals as goal

-- at a hook that is in the loan is added
is_put : (ls : Loans) (loan : Loan) (size : ℕ) (r : Result (Unit {0}) NotAdded) (after : List Loan) → size ≡ 32 → loan.hook < 32 → state_of ls loan.hook ≡ In
    → r ≡ insertion hook_of loan size (loans_in ls) → after ≡ after_insertion hook_of loan (loans_in ls) r → after ≡ put hook_of loan (loans_in ls)
is_put ls loan size r after long lt free is e =
    let old = loans_in ls in
    e ∙ ap (after_insertion hook_of loan old) (is ∙ ap (λ n. insertion hook_of loan n old) long ∙ added loan old ls.rises ls.below lt free)

pub invariant_of-self : goal.invariant_of-self
invariant_of-self c =
    let ls = c.args.self.now in
    let loan : Loan = record { hook = c.args.hook; lent = Promised c.args.person } in
    let e = c.insert.ensures in
    let made = is_put ls loan _ _ _ ls.sized c.requires.real c.requires.free e.is e.after in record { sized = c.insert.auto.rows ∙ ls.sized; within = omega (arith, e.within, ls.within, ls.sized); rises = e.rises ls.rises; below = subst (AllBelow hook_of 32) (sym made) (below_put hook_of 32 loan (loans_in ls) ls.below c.requires.real) }

pub returns : goal.returns
returns c =
    let ls = c.args.self.now in
    let loan : Loan = record { hook = c.args.hook; lent = Promised c.args.person } in
    let e = c.insert.ensures in
    let made = is_put ls loan _ _ _ ls.sized c.requires.real c.requires.free e.is e.after in
    λ k. ap (λ xs. state_at xs k) made ∙ begun loan (loans_in ls) k
