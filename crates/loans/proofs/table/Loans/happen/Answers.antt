use Rattle.std.proofs.Common.{◌≡◌, ℕ, cond, eqb, Ok, Err, Result, sym, refl, ap, ◌∙◌, subst}
use Rattle.std.proofs.lemmas.Result.{err_from_is_err_and}
use Rattle.faults.specs.declared.Fault.{Fault}
use Rattle.loans.specs.declared.state.HookState.{HookState}
use Rattle.loans.specs.declared.state.HookState.TheVariants.{Out}
use Rattle.loans.specs.declared.state.Event.{Event}
use Rattle.loans.specs.declared.table.Loans.{Loans}
use Rattle.loans.specs.Events.{judged, Allowed, leads_to}
use Rattle.loans.specs.Hooks.{state_of, Moved, Only, Leaves, answered}
use Rattle.loans.proofs.Listed.{moved}
use Rattle.loans.proofs.Judged.{allowed_ok, ok_allowed, out_from}
use Rattle.loans.proofs.table.Loans.happen.Goals as goal

-- the judgement as the code makes it, by the state that it reads
judgement : (ls : Loans) (h : ℕ) (event : Event) (read s t : HookState) (r : Result HookState Fault)
    → read ≡ state_of ls h → r ≡ judged h read event → r ≡ Ok t → t ≡ s → judged h (state_of ls h) event ≡ Ok s
judgement ls h event read s t r is e was got = ap (λ x. judged h x event) (sym is) ∙ sym e ∙ was ∙ ap (λ x. Ok x) got

-- what is owed where the event was accepted
module _ (before after : Loans) (h : ℕ) (event : Event) (s : HookState) (j : judged h (state_of before h) event ≡ Ok s) (only : Only before h s after) where
  leaves : Leaves before h (judged h (state_of before h) event) after
  leaves = subst (λ x. Leaves before h x after) (sym j) (moved before after h s only)

  led : Allowed h (state_of before h) event × Moved before h (leads_to event) after
  led = let a = ok_allowed h (state_of before h) s event j in (a.0, subst (λ t. Moved before h t after) a.1 (moved before after h s only))

pub returns-in-In : goal.returns-in-In
returns-in-In c =
    let ls = c.args.self.now in
    let h = c.args.hook in
    let event = c.args.event in
    let j = judgement ls h event _ _ _ _ c.state.ensures.is c.judge.ensures c.in_ok-judge.was c.in-In.is in
    record {
      is = sym (ap answered j);
      leaves = leaves ls c.end.new.self h event _ j c.end.ensures;
      allowed = λ _. refl;
      law = led ls c.end.new.self h event _ j c.end.ensures;
    }

pub returns-in-Promised : goal.returns-in-Promised
returns-in-Promised c =
    let ls = c.args.self.now in
    let h = c.args.hook in
    let event = c.args.event in
    let j = judgement ls h event _ _ _ _ c.state.ensures.is c.judge.ensures c.in_ok-judge.was c.in-Promised.is in
    record {
      is = sym (ap answered j);
      leaves = leaves ls c.promise.new.self h event _ j c.promise.ensures;
      allowed = λ _. refl;
      law = led ls c.promise.new.self h event _ j c.promise.ensures;
    }

pub returns-in-Out : goal.returns-in-Out
returns-in-Out c =
    let ls = c.args.self.now in
    let h = c.args.hook in
    let event = c.args.event in
    let j = judgement ls h event _ _ _ _ c.state.ensures.is c.judge.ensures c.in_ok-judge.was c.in-Out.is in
    let only : Only ls h Out c.hand_out.new.self = λ k. c.hand_out.ensures k ∙ ap (λ s. cond (eqb h k) s (state_of ls k)) (out_from h (state_of ls h) event j) in
    record {
      is = sym (ap answered j);
      leaves = leaves ls c.hand_out.new.self h event _ j only;
      allowed = λ _. refl;
      law = led ls c.hand_out.new.self h event _ j only;
    }

pub returns-in_err-judge : goal.returns-in_err-judge
returns-in_err-judge c =
    let ls = c.args.self.now in
    let h = c.args.hook in
    let event = c.args.event in
    let p = err_from_is_err_and c.from_residual.result c.from_residual.ensures.1 in
    let j : judged h (state_of ls h) event ≡ Err c.in_err-judge.field-0.0 = ap (λ x. judged h x event) (sym c.state.ensures.is) ∙ sym c.in_err-judge.ensures in
    rw (p.1, p.2)
    record {
      is = sym (ap answered j);
      leaves = subst (λ x. Leaves ls h x ls) (sym j) refl;
      allowed = λ a. sym (ap answered j) ∙ ap answered (allowed_ok h (state_of ls h) event a);
      law = refl;
    }
