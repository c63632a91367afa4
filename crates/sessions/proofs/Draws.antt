-- Each command on a cabinet; a draw with what became of the key.
use Rattle.std.proofs.Common.{◌≡◌, ℕ, List, [], map, reverse, length, Some, None, Ok, Err, Option, Result, unwrap_or, sym, refl, ap, ◌∙◌, subst, arith}
use Rattle.faults.specs.declared.Fault.{Fault}
use Rattle.states.specs.declared.state.State.{State}
use Rattle.states.specs.declared.report.Report.{Report}
use Rattle.states.specs.States.{kept}
use Rattle.grants.specs.declared.terms.Terms.{Terms}
use Rattle.conditions.specs.declared.truth.Truth.{Truth}
use Rattle.loans.specs.declared.state.HookState.TheVariants as key
use Rattle.controller.specs.declared.slip.Slip as slips
use Rattle.controller.specs.declared.slip.RefusedSlip.{RefusedSlip}
use Rattle.command_words.specs.declared.Outcome.{Outcome}
use Rattle.command_words.specs.declared.Command.{Command}
use Rattle.command_words.specs.declared.Command.TheVariants as commands
use Rattle.plain.specs.Record.{World, Issue, Amend, Withdraw, Draw, Return, Answer, Refused, Slip, Done, judged_by, first_fault, checks, drawn, number_of, step, whole, hook_at}
use Rattle.controller.specs.declared.cabinet.Cabinet.{Cabinet}
use Rattle.ledger.specs.Answers.{told, done}
use Rattle.controller.specs.Cabinets.{world, reply, Follows, slip_of, spent}
use Rattle.sessions.specs.Commands.{spends, followed}
use Rattle.sessions.specs.Performing.{Performs}
use Rattle.sessions.proofs.Performed.{promised, spendable}

-- a draw is answered by a slip, or refused
slip_told : (w : World) (o : Option Fault) (v : World) (h p : ℕ) (ns : List ℕ) (s : slips.Slip) → Ok s ≡ slip_of (judged_by w o (v, Slip h p ns)).1
    → ((judged_by w o (v, Slip h p ns)).1 ≡ Slip s.hook s.person ns) × (s.length ≡ length ns)
slip_told w None v h p ns s q =
    let same : s ≡ record { hook = h; person = p; length = length ns } = cc in
    (sym (ap (λ (t : slips.Slip). Slip t.hook t.person ns) same), ap (λ (t : slips.Slip). t.length) same)
slip_told w (Some x) v h p ns s q = let z : ◌≡◌ {A = ℕ} 0 1 = cc in absurd (omega arith)

refused_told : (w : World) (o : Option Fault) (v : World) (h p : ℕ) (ns : List ℕ) (e : Fault) → Err e ≡ slip_of (judged_by w o (v, Slip h p ns)).1 → (judged_by w o (v, Slip h p ns)).1 ≡ Refused e
refused_told w None v h p ns e q = let z : ◌≡◌ {A = ℕ} 0 1 = cc in absurd (omega arith)
refused_told w (Some x) v h p ns e q = let same : e ≡ x = cc in ap (λ y. Refused y) (sym same)

-- a cabinet has 32 hooks
hooked : {L : Type 0} (c : Cabinet L) → length (world c).hooks ≡ 32
hooked c = refl

module _ {L : Type 0} (size : L → ℕ) (says : L → ℕ → State → Truth) (before : Cabinet L) (caller h : ℕ) (r : Report) (o : Outcome) where
  abbrev took : World × Answer
  took = step (size before.language) (says before.language) kept whole (world before) (Draw caller h r)

  -- the fault that the draw's checks find, and the numbers of the chain
  abbrev flaw : Option Fault
  flaw = first_fault (checks (size before.language) (says before.language) kept whole (world before) (Draw caller h r))

  abbrev numbers : List ℕ
  numbers = reverse (map number_of (unwrap_or (drawn (size before.language) (says before.language) kept whole (world before) caller h r) []))

  abbrev follow : World → Answer → World
  follow w a = followed (size before.language) (says before.language) kept whole o w a

  -- a draw that was refused
  pub draw_refused : (e : Fault) (after : Cabinet L) → Err e ≡ slip_of (reply size says before (Draw caller h r)) → Follows size says before (Draw caller h r) after
      → Performs size says before (commands.Draw caller h r o) (Err e) after
  draw_refused e after q f =
      let no = refused_told (world before) flaw _ h caller numbers e q in
      record {
        language = f.language;
        held = f.held ∙ sym (ap (follow took.0) no);
        told_so = sym (ap told no);
      }

  -- the slip of a draw that was accepted can be spent
  pub draw_promised : (s : slips.Slip) (after : Cabinet L) → Ok s ≡ slip_of (reply size says before (Draw caller h r)) → Follows size says before (Draw caller h r) after
      → hook_at (world after) s.hook ≡ key.Promised s.person
  draw_promised s after q f =
      let t = slip_told (world before) flaw _ h caller numbers s q in
      ap (λ w. hook_at w s.hook) f.held ∙ promised (size before.language) (says before.language) kept whole (world before) caller h r s.hook s.person numbers (hooked before) t.0

  -- and then the draw has done what its command asks for
  pub draw_spent : (s : slips.Slip) (mid after : Cabinet L) (n : ℕ) → Ok s ≡ slip_of (reply size says before (Draw caller h r)) → Follows size says before (Draw caller h r) mid
      → Follows size says mid (spends o s.hook s.person) after → n ≡ s.length
      → Performs size says before (commands.Draw caller h r o) (Ok n) after
  draw_spent s mid after n q f g k =
      let t = slip_told (world before) flaw _ h caller numbers s q in
      record {
        language = g.language ∙ f.language;
        held =
            g.held
            ∙ (λ i. (step (size (f.language i)) (says (f.language i)) kept whole (f.held i) (spends o s.hook s.person)).0)
            ∙ sym (ap (follow took.0) t.0);
        told_so = ap (λ x. Ok x) (k ∙ t.1) ∙ sym (ap told t.0);
      }

-- a slip whose key is promised so comes back from nowhere
pub never_back : {L : Type 0} (size : L → ℕ) (says : L → ℕ → State → Truth) (c : Cabinet L) (s : slips.Slip) (o : Outcome) (back : RefusedSlip)
    → hook_at (world c) s.hook ≡ key.Promised s.person → Err back ≡ spent s (reply size says c (spends o s.hook s.person)) → ⊥
never_back size says c s o back p q =
    let e : Err back ≡ Ok tt = q ∙ ap (spent s) (spendable (size c.language) (says c.language) kept whole (world c) o s.hook s.person p) in
    let z : ◌≡◌ {A = ℕ} 0 1 = cc in
    omega arith

-- a call that is done or refused
done_told : (w : World) (o : Option Fault) (v : World) (d : Unit {0}) → Ok d ≡ done (judged_by w o (v, Done)).1 → (judged_by w o (v, Done)).1 ≡ Done
done_told w None v d q = refl
done_told w (Some x) v d q = let z : ◌≡◌ {A = ℕ} 0 1 = cc in absurd (omega arith)

not_done_told : (w : World) (o : Option Fault) (v : World) (e : Fault) → Err e ≡ done (judged_by w o (v, Done)).1 → (judged_by w o (v, Done)).1 ≡ Refused e
not_done_told w None v e q = let z : ◌≡◌ {A = ℕ} 0 1 = cc in absurd (omega arith)
not_done_told w (Some x) v e q = let same : e ≡ x = cc in ap (λ y. Refused y) (sym same)

module _ {L : Type 0} (size : L → ℕ) (says : L → ℕ → State → Truth) (before after : Cabinet L) (caller h : ℕ) (f : Follows size says before (Return caller h) after) where
  abbrev flaws : Option Fault
  flaws = first_fault (checks (size before.language) (says before.language) kept whole (world before) (Return caller h))

  pub returned : (d : Unit {0}) → Ok d ≡ done (reply size says before (Return caller h)) → Performs size says before (commands.Return caller h) (Ok 0) after
  returned d q = record { language = f.language; held = f.held; told_so = sym (ap told (done_told (world before) flaws _ d q)) }

  pub not_returned : (e : Fault) → Err e ≡ done (reply size says before (Return caller h)) → Performs size says before (commands.Return caller h) (Err e) after
  not_returned e q = record { language = f.language; held = f.held; told_so = sym (ap told (not_done_told (world before) flaws _ e q)) }

-- the other commands are single calls
module _ {L : Type 0} (size : L → ℕ) (says : L → ℕ → State → Truth) (before : Cabinet L) (k : Command) (answer : Result ℕ Fault) (after : Cabinet L) where
  as_told : (c : Command) → k ≡ c → Performs size says before c answer after → Performs size says before k answer after
  as_told c e p = subst (λ (x : Command). Performs size says before x answer after) (sym e) p

  pub issued : (caller h grantee : ℕ) (terms : Terms) → k ≡ commands.Issue caller h grantee terms
      → answer ≡ told (reply size says before (Issue caller h grantee terms)) → Follows size says before (Issue caller h grantee terms) after → Performs size says before k answer after
  issued caller h grantee terms is e f = as_told (commands.Issue caller h grantee terms) is (record { language = f.language; held = f.held; told_so = e })

  pub amended : (caller n : ℕ) (terms : Terms) → k ≡ commands.Amend caller n terms
      → answer ≡ told (reply size says before (Amend caller n terms)) → Follows size says before (Amend caller n terms) after → Performs size says before k answer after
  amended caller n terms is e f = as_told (commands.Amend caller n terms) is (record { language = f.language; held = f.held; told_so = e })

  pub withdrawn : (caller n : ℕ) → k ≡ commands.Withdraw caller n
      → answer ≡ told (reply size says before (Withdraw caller n)) → Follows size says before (Withdraw caller n) after → Performs size says before k answer after
  withdrawn caller n is e f = as_told (commands.Withdraw caller n) is (record { language = f.language; held = f.held; told_so = e })
