-- What a loan more, a loan less and a key gone out mean for the hooks.
use Rattle.std.proofs.Common.{◌≡◌, ℕ, ◌<◌, Bool, true, false, cond, eqb, List, length, get_or, set, is_some, Some, None, Ok, Option, sym, refl, ap, ◌∙◌, ⊎_elim, arith}
use Rattle.std.proofs.lemmas.Bool.{cases_Bool, cond-true, cond-false, eqb-true, eqb-false, lt-leb}
use Rattle.numbered.specs.Rows.{Rises, AllBelow, row_of, place_of, put, without}
use Rattle.numbered.specs.Answers.{insertion, answer_to}
use Rattle.numbered.proofs.Laws.{put_laws, without_laws, rises_parts, place_left, row_at, row_number, row_none, means_set}
use Rattle.loans.specs.declared.state.HookState.{HookState}
use Rattle.loans.specs.declared.state.HookState.TheVariants.{In, Out}
use Rattle.loans.specs.declared.table.Lent.{Lent}
use Rattle.loans.specs.declared.table.Lent.TheVariants as lent
use Rattle.loans.specs.declared.table.Loan.{Loan}
use Rattle.loans.specs.Hooks.{hook_of, where_lent, state_by, gone_out, went_out}

-- where the key of hook h is, by the loans in use
abbrev pub state_at : List Loan → ℕ → HookState
state_at xs h = state_by (row_of hook_of h xs)

state_cond : (t : Bool) (o p : Option Loan) → state_by (cond t o p) ≡ cond t (state_by o) (state_by p)
state_cond true o p = refl
state_cond false o p = refl

lent_not_in : (l : Lent) → where_lent l ≡ In → ⊥
lent_not_in (lent.Promised p) e = let z : ◌≡◌ {A = ℕ} 0 1 = cc in omega arith
lent_not_in lent.Out e = let z : ◌≡◌ {A = ℕ} 0 1 = cc in omega arith

none_in : (o : Option Loan) → state_by o ≡ In → o ≡ None
none_in None e = refl
none_in (Some l) e = absurd (lent_not_in l.lent e)

pub ended : (h : ℕ) (xs : List Loan) → Rises hook_of xs → (k : ℕ) → state_at (without hook_of h xs) k ≡ cond (eqb h k) In (state_at xs k)
ended h xs r k =
    let laws = without_laws hook_of h xs in
    ⊎_elim
    (λ t. ap (λ m. state_at (without hook_of h xs) m) (sym (eqb-true h k t)) ∙ ap state_by (laws.gone r) ∙ sym (cond-true (eqb h k) In (state_at xs k) t))
    (λ u. ap state_by (laws.others k (eqb-false h k u)) ∙ sym (cond-false (eqb h k) In (state_at xs k) u))
    (cases_Bool (eqb h k))

-- a hook that is in leaves a place in the table
pub added : (loan : Loan) (xs : List Loan) → Rises hook_of xs → AllBelow hook_of 32 xs → loan.hook < 32 → state_at xs loan.hook ≡ In
    → insertion hook_of loan 32 xs ≡ Ok tt
added loan xs r b lt e =
    let free = none_in (row_of hook_of loan.hook xs) e in
    let room = place_left hook_of 0 32 loan.hook xs (rises_parts hook_of 0 xs r) b (omega arith) lt free in
    λ i. answer_to (is_some (free i)) (lt-leb 32 (length xs) (omega arith) i)

pub begun : (loan : Loan) (xs : List Loan) (k : ℕ) → state_at (put hook_of loan xs) k ≡ cond (eqb loan.hook k) (where_lent loan.lent) (state_at xs k)
begun loan xs k = ap state_by ((put_laws hook_of loan xs).means k) ∙ state_cond (eqb loan.hook k) (Some loan) (row_of hook_of k xs)

gone_out_lem : (l : Loan) → Out ≡ gone_out (where_lent l.lent)
gone_out_lem l = elim l.lent as (λ e. Out ≡ gone_out (where_lent e)) [ lent.Promised p ↦ refl | lent.Out ↦ refl ]

-- the loan found at place i, and what changing it in place means
module _ (h i : ℕ) (d : Loan) (xs : List Loan) (e : place_of hook_of h xs ≡ Some i) where
  pub found_loan : row_of hook_of h xs ≡ Some (get_or xs i d)
  found_loan =
      let q = row_at hook_of h 0 i xs d e in
      let at : q.0 ≡ i = omega (arith, q.1) in
      q.2 ∙ ap (λ n. Some (get_or xs n d)) at

  pub handed : (new : Loan) → new ≡ went_out (get_or xs i d) → (k : ℕ) → state_at (set xs i new) k ≡ cond (eqb h k) (gone_out (state_at xs h)) (state_at xs k)
  handed new is k =
      let number : new.hook ≡ h = ap (λ (l : Loan). l.hook) is ∙ row_number hook_of h (get_or xs i d) xs found_loan in
      ap state_by (means_set hook_of h 0 i i k new xs e (omega arith) number)
      ∙ state_cond (eqb h k) (Some new) (row_of hook_of k xs)
      ∙ ap (λ s. cond (eqb h k) s (state_at xs k)) (ap (λ (l : Loan). where_lent l.lent) is ∙ gone_out_lem (get_or xs i d) ∙ sym (ap (λ o. gone_out (state_by o)) found_loan))

-- where there is no loan, no key goes out
pub unmoved : (h : ℕ) (xs : List Loan) → place_of hook_of h xs ≡ None → (k : ℕ) → state_at xs k ≡ cond (eqb h k) (gone_out (state_at xs h)) (state_at xs k)
unmoved h xs e k =
    let free = row_none hook_of h 0 xs e in
    ⊎_elim
    (λ t. ap (state_at xs) (sym (eqb-true h k t)) ∙ ap state_by free ∙ sym (ap (λ o. gone_out (state_by o)) free) ∙ sym (cond-true (eqb h k) (gone_out (state_at xs h)) (state_at xs k) t))
    (λ u. sym (cond-false (eqb h k) (gone_out (state_at xs h)) (state_at xs k) u))
    (cases_Bool (eqb h k))
