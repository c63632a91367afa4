-- Commands on a cabinet that keeps parts of states only, and on the plain record.
use Rattle.std.proofs.Common.{◌≡◌, ℕ, ◌+◌, ◌<◌, Bool, true, false, cond, eqb, ltb, List, [], ◌∷◌, ◌++◌, length, get_or, set, Some, None, Ok, Err, Option, Result, sym, refl, ap, ◌∙◌, subst, arith, get_or-set_same}
use Rattle.std.proofs.lemmas.Bool.{eq-eqb, or_parts, ltb-false, true≢false}
use Rattle.faults.specs.declared.Fault.{Fault}
use Rattle.faults.specs.declared.Refusal.TheVariants.{NotPromised}
use Rattle.faults.specs.Faults.{fault}
use Rattle.states.specs.declared.state.State.{State}
use Rattle.states.specs.declared.report.Report.{Report}
use Rattle.states.specs.States.{kept}
use Rattle.conditions.specs.declared.truth.Truth.{Truth}
use Rattle.loans.specs.declared.state.HookState.{HookState}
use Rattle.loans.specs.declared.state.HookState.TheVariants as key
use Rattle.loans.specs.declared.state.Event.TheVariants as event
use Rattle.loans.specs.Events.{judged}
use Rattle.command_words.specs.declared.Outcome.{Outcome}
use Rattle.command_words.specs.declared.Outcome.TheVariants.{Taken, Left}
use Rattle.command_words.specs.declared.Command.{Command}
use Rattle.command_words.specs.declared.Command.TheVariants as commands
use Rattle.plain.specs.Record.{World, Call, Issue, Amend, Withdraw, Draw, Return, Answer, Refused, Number, Orphaned, Slip, Done, new, judged_by, first_fault, found, checks, done, step, whole, with_hook, hook_at, owner}
use Rattle.plain.specs.Laws.{Fine, shrunk}
use Rattle.plain.proofs.Checked.{off, all_pass}
use Rattle.plain.proofs.Runs.{fine_new, fine_step}
use Rattle.plain.proofs.Kept.{step_cut}
use Rattle.ledger.specs.Answers.{told}
use Rattle.sessions.specs.Lines.{line, verb_text, unread}
use Rattle.sessions.specs.Sessions.{lines}
use Rattle.sessions.specs.Commands.{spends, followed, performed}

-- a cabinet as the session finds it: what it holds is the plain record cut down
pub record Shows (c w : World) : Type 0 where
  pub same : c ≡ shrunk w
  pub fine : Fine w

-- what one call leaves
module _ (size : ℕ) (means : ℕ → State → Truth) where
  pub shows_step : (c w : World) (k : Call) → Shows c w
      → Shows (step size means kept whole c k).0 (step size means whole kept w k).0 × ((step size means kept whole c k).1 ≡ (step size means whole kept w k).1)
  shows_step c w k s =
      let e = ap (λ x. step size means kept whole x k) s.same ∙ step_cut size means w k s.fine in (
        record {
          same = ap (λ (a : World × Answer). a.0) e;
          fine = fine_step size means whole kept w k s.fine;
        },
        ap (λ (a : World × Answer). a.1) e,
      )

  follow : (o : Outcome) (c w : World) (a : Answer) → Shows c w → Shows (followed size means kept whole o c a) (followed size means whole kept o w a)
  follow o c w (Refused e) s = s
  follow o c w (Number n) s = s
  follow o c w (Orphaned n) s = s
  follow o c w (Slip h p ns) s = (shows_step c w (spends o h p) s).0
  follow o c w Done s = s

  -- what one command leaves
  pub shows_performed : (c w : World) (k : Command) → Shows c w
      → Shows (performed size means kept whole c k).0 (performed size means whole kept w k).0 × ((performed size means kept whole c k).1 ≡ (performed size means whole kept w k).1)
  shows_performed c w (commands.Issue caller hook grantee terms) s = shows_step c w (Issue caller hook grantee terms) s
  shows_performed c w (commands.Amend caller number terms) s = shows_step c w (Amend caller number terms) s
  shows_performed c w (commands.Withdraw caller number) s = shows_step c w (Withdraw caller number) s
  shows_performed c w (commands.Draw caller hook report outcome) s =
      let d = shows_step c w (Draw caller hook report) s in (
        subst (λ (a : Answer). Shows (followed size means kept whole outcome (step size means kept whole c (Draw caller hook report)).0 (step size means kept whole c (Draw caller hook report)).1) (followed size means whole kept outcome (step size means whole kept w (Draw caller hook report)).0 a)) d.1
            (follow outcome (step size means kept whole c (Draw caller hook report)).0 (step size means whole kept w (Draw caller hook report)).0 (step size means kept whole c (Draw caller hook report)).1 d.0),
        d.1,
      )
  shows_performed c w (commands.Return caller hook) s = shows_step c w (Return caller hook) s

-- a new cabinet
pub shows_new : Shows new new
shows_new = record { same = refl; fine = fine_new }

module _ (size : ℕ) (means : ℕ → State → Truth) (put see : ℕ → State → State) where
  -- an accepted draw leaves its key promised as the slip says
  pub promised : (w : World) (caller h : ℕ) (r : Report) (hook person : ℕ) (ns : List ℕ) → length w.hooks ≡ 32
      → (step size means put see w (Draw caller h r)).1 ≡ Slip hook person ns
      → hook_at (step size means put see w (Draw caller h r)).0 hook ≡ key.Promised person
  promised w caller h r hook person ns n e = go (first_fault (checks size means put see w (Draw caller h r))) refl e
    where
      go : (o : Option Fault) → first_fault (checks size means put see w (Draw caller h r)) ≡ o
          → (judged_by w o (done size means put see w (Draw caller h r))).1 ≡ Slip hook person ns
          → hook_at (judged_by w o (done size means put see w (Draw caller h r))).0 hook ≡ key.Promised person
      go (Some x) f e = let z : ◌≡◌ {A = ℕ} 0 1 = cc in absurd (omega arith)
      go None f e =
          let a = all_pass (checks size means put see w (Draw caller h r)) f in
          let low = ltb-false 31 h (or_parts (ltb 31 h) (eqb (owner w h) 0) (off _ _ a.1.0)).0 in
          let lt : h < length w.hooks = omega arith in
          let same : h ≡ hook = cc in
          let whose : caller ≡ person = cc in
          ap (λ i. get_or (set w.hooks h (key.Promised caller)) i key.In) (sym same) ∙ get_or-set_same w.hooks h (key.Promised caller) key.In lt ∙ ap (λ (q : ℕ). key.Promised q) whose

  -- a slip whose key is promised so can be spent
  pub spendable : (w : World) (o : Outcome) (h p : ℕ) → hook_at w h ≡ key.Promised p → (step size means put see w (spends o h p)).1 ≡ Done
  spendable w Taken h p e = ap (λ (k : HookState). (judged_by w (first_fault (found (judged h k (event.Take p)) ∷ [])) (with_hook w h key.Out, Done)).1) e ∙ go (eqb p p) (eq-eqb p p refl)
    where
      go : (b : Bool) → b ≡ true → (judged_by w (first_fault (found (cond b (Ok key.Out) (Err (fault NotPromised h))) ∷ [])) (with_hook w h key.Out, Done)).1 ≡ Done
      go true e = refl
      go false e = absurd (true≢false (sym e))
  spendable w Left h p e = ap (λ (k : HookState). (judged_by w (first_fault (found (judged h k (event.Leave p)) ∷ [])) (with_hook w h key.In, Done)).1) e ∙ go (eqb p p) (eq-eqb p p refl)
    where
      go : (b : Bool) → b ≡ true → (judged_by w (first_fault (found (cond b (Ok key.In) (Err (fault NotPromised h))) ∷ [])) (with_hook w h key.In, Done)).1 ≡ Done
      go true e = refl
      go false e = absurd (true≢false (sym e))

-- the lines are the same on the cabinet and on the plain record
module _ (size : ℕ) (means : ℕ → State → Truth) where
  pub same_lines : (c w : World) (n : ℕ) (ks : List (Result Command Fault)) → Shows c w → lines size means kept whole c n ks ≡ lines size means whole kept w n ks
  unfolding lines
  same_lines c w n [] s = refl
  same_lines c w n (Err e ∷ ks) s = ap (λ t. unread n e ++ t) (same_lines c w (n + 1) ks s)
  same_lines c w n (Ok k ∷ ks) s =
      let p = shows_performed size means c w k s in
      λ i. line n (verb_text k) (told (p.1 i)) ++ same_lines (performed size means kept whole c k).0 (performed size means whole kept w k).0 (n + 1) ks p.0 i
