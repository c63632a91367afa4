-- Every state on the plain record is in range, so that a lawful language's laws hold of it.
use Rattle.std.proofs.Common.{◌≡◌, ℕ, zero, suc, ◌+◌, ◌<◌, ◌≤◌, Bool, true, false, cond, not, List, [], ◌∷◌, ◌++◌, map, reverse, is_some, Some, None, Err, Option, unwrap_or, sym, refl, ap, ◌∙◌, subst, ⊎_elim, arith}
use Rattle.std.specs.List.{AllByRecursion}
use Rattle.std.proofs.lemmas.Bool.{true≢false, not-false, cases_lt}
use Rattle.faults.specs.declared.Refusal.TheVariants.{ValueOutOfRange}
use Rattle.faults.specs.Faults.{fault}
use Rattle.states.specs.declared.state.State.{State}
use Rattle.states.specs.declared.report.Report.{Report}
use Rattle.states.specs.Reports.{state_of}
use Rattle.states.specs.States.{InRange, kept}
use Rattle.states.specs.Ranges.{out_at, check_from, range_check}
use Rattle.states.proofs.Checks as ranges
use Rattle.grants.specs.declared.Grant.{Grant}
use Rattle.conditions.specs.declared.truth.Truth.{Truth}
use Rattle.conditions.specs.Laws.{Lawful}
use Rattle.numbered.specs.Rows.{without}
use Rattle.chains.specs.Chains.{Person, Chain, Valid}
use Rattle.chains.specs.Laws.{recorded}
use Rattle.chains.specs.Search.{is_person}
use Rattle.chains.proofs.Lists.{in_append, all_in, in_all}
use Rattle.chains.proofs.Sound.{decides_person, chosen_some}
use Rattle.chains.proofs.Standing.{chain_in, kept_then_whole}
use Rattle.plain.specs.Record.{World, Call, Fit, Issue, Amend, Withdraw, Draw, Take, Leave, Return, Answer, Refused, Number, Orphaned, Slip, Done, found, checks, done, step, run, new, whole, owner, seen, grant_at, number_of, issued, amended, drawn}
use Rattle.plain.specs.Laws.{SlipTells, WholeLaws}
use Rattle.plain.proofs.Rows.{all_keep, all_without}
use Rattle.plain.proofs.Checked.{Passed, none_some, off, keeps_judged, is_refusal, accepted}
use Rattle.plain.proofs.Runs.{fine_new, fine_run, stays, there}

-- a check of ranges that finds nothing
inside_from : (s : State) (v n : ℕ) → found (check_from s v n) ≡ None → (k : ℕ) → v ≤ k → k < v + n → out_at s k ≡ false
inside_from s v zero e k low high = absurd (omega arith)
inside_from s v (suc n) e k low high = go (λ f less. inside_from s (suc v) n f k less (omega arith)) (out_at s v) refl e
  where
    go : (found (check_from s (suc v) n) ≡ None → suc v ≤ k → out_at s k ≡ false) → (b : Bool) → out_at s v ≡ b → found (cond b (Err (fault ValueOutOfRange v)) (check_from s (suc v) n)) ≡ None → out_at s k ≡ false
    go ih true t f = absurd (none_some f)
    go ih false t f = ⊎_elim (λ less. ih f less) (λ more. let same : v ≡ k = omega (arith, low, more) in subst (λ u. out_at s u ≡ false) same t) (cases_lt v k)

inside : (s : State) → found (range_check s) ≡ None → InRange s
inside s e = ranges.all_in s (λ v h. inside_from s 0 8 e v (omega arith) (omega (arith, h)))

-- with the receiver, who is a person, filled in
with_receiver : (p q : ℕ) (told : Report) → Person q → InRange (state_of p None told) → InRange (state_of p (Some q) told)
with_receiver p q told person range zero n e = range zero n e
with_receiver p q told person range (suc zero) n e = let same : q ≡ n = cc e in (subst (λ x. 1 ≤ x) same person.0, subst (λ x. x ≤ 200) same person.1)
with_receiver p q told person range (suc (suc v)) n e = range (suc (suc v)) n e

a_person : (p : ℕ) → not (is_person p) ≡ false → Person p
a_person p e = (decides_person p).0 (not-false (is_person p) e)

abbrev Good : Grant → Type 0
Good g = InRange g.state × Person g.grantee

abbrev Ranged : World → Type 0
Ranged w = AllByRecursion Good w.grants

all_more : (r : List Grant) (g : Grant) → AllByRecursion Good r → Good g → AllByRecursion Good (r ++ (g ∷ []))
all_more r g a b = in_all Good (r ++ (g ∷ [])) (λ x i. ⊎_elim (all_in Good r a x) (⊎_elim (λ e. subst Good e b) (λ k. absurd k)) (in_append x r (g ∷ []) i))

module _ (size : ℕ) (means : ℕ → State → Truth) where
  ranged_done : (w : World) (k : Call) → Ranged w → Passed (checks size means whole kept w k) → Ranged (done size means whole kept w k).0
  ranged_done w (Fit owners set) g a = g
  ranged_done w (Issue p h q terms) g a =
      let receiver = a_person q (off _ _ a.1.0) in
      all_more w.grants (issued size means whole kept w p h q terms) g (with_receiver p q terms.report receiver (inside (state_of p None terms.report) a.1.1.1.0), receiver)
  ranged_done w (Amend p n terms) g a =
      let old = grant_at w.grants n in
      let receiver = (all_in Good w.grants g old (there w.grants n (off _ _ a.1.1.1.1.0)).1).1 in
      let new = amended size means whole kept w p n terms in
      let rest = without number_of n w.grants in
      all_keep Good (stays size means whole kept w (rest ++ (new ∷ []))) (rest ++ (new ∷ []))
      (all_more rest new (all_without number_of n Good w.grants g) (with_receiver p old.grantee terms.report receiver (inside (state_of p None terms.report) a.1.0), receiver))
  ranged_done w (Withdraw p n) g a =
      let rest = without number_of n w.grants in
      all_keep Good (stays size means whole kept w rest) rest (all_without number_of n Good w.grants g)
  ranged_done w (Draw p h told) g a = g
  ranged_done w (Take h p) g a = g
  ranged_done w (Leave h p) g a = g
  ranged_done w (Return p h) g a = g

  ranged_run : (ks : List Call) (w : World) → Ranged w → Ranged (run size means whole kept w ks)
  ranged_run [] w g = g
  ranged_run (k ∷ ks) w g = ranged_run ks (step size means whole kept w k).0 (keeps_judged Ranged w (checks size means whole kept w k) (done size means whole kept w k) g (ranged_done w k g))

  in_range : (past : List Call) → AllByRecursion (λ (g : Grant). InRange g.state) (run size means whole kept new past).grants
  in_range past =
      let r = (run size means whole kept new past).grants in
      in_all (λ (g : Grant). InRange g.state) r (λ g i. (all_in Good r (ranged_run past new tt) g i).0)

  module _ (lawful : Lawful size means) (past : List Call) where
    abbrev here : World
    here = run size means whole kept new past

    valid_whole : (h o p : ℕ) (c : List Grant) → Chain here.grants h o c p → Valid means (seen size means whole kept here) c → Valid means recorded c
    valid_whole h o p c x v =
        kept_then_whole size means lawful here.kept c
        (in_all (λ (g : Grant). InRange g.state) c (λ g i. all_in (λ (g : Grant). InRange g.state) here.grants (in_range past) g (chain_in here.grants h o c p x g i))) v

    tells : (caller h : ℕ) (told : Report) (hook person : ℕ) (numbers : List ℕ) (o : Option (List Grant)) → drawn size means whole kept here caller h told ≡ o
        → not (is_some (drawn size means whole kept here caller h told)) ≡ false → Slip h caller (reverse (map number_of (unwrap_or (drawn size means whole kept here caller h told) []))) ≡ Slip hook person numbers
        → SlipTells means (seen size means whole kept here) here caller h told hook person numbers
    tells caller h told hook person numbers None e some t = absurd (true≢false (sym (ap (λ x. not (is_some x)) e) ∙ some))
    tells caller h told hook person numbers (Some c) e some t =
        let l = chosen_some means (seen size means whole kept here) here.grants h (owner here h) caller (state_of caller None told) c (fine_run size means whole kept past new fine_new).rising e in
        record {
          of_hook = sym (ap hook_of t);
          of_person = sym (ap person_of t);
          chain = c;
          named = sym (ap list_of t) ∙ ap (λ x. reverse (map number_of (unwrap_or x []))) e;
          least = l;
          valid = valid_whole h (owner here h) caller c l.0.0 l.0.2.0;
        }
      where
        hook_of : Answer → ℕ
        hook_of (Refused e) = 0
        hook_of (Number n) = 0
        hook_of (Orphaned n) = 0
        hook_of (Slip h p l) = h
        hook_of Done = 0

        person_of : Answer → ℕ
        person_of (Refused e) = 0
        person_of (Number n) = 0
        person_of (Orphaned n) = 0
        person_of (Slip h p l) = p
        person_of Done = 0

        list_of : Answer → List ℕ
        list_of (Refused e) = []
        list_of (Number n) = []
        list_of (Orphaned n) = []
        list_of (Slip h p l) = l
        list_of Done = []

    slip_tells : (caller h : ℕ) (told : Report) (hook person : ℕ) (numbers : List ℕ)
        → (step size means whole kept here (Draw caller h told)).1 ≡ Slip hook person numbers
        → SlipTells means (seen size means whole kept here) here caller h told hook person numbers
    slip_tells caller h told hook person numbers e =
        let a = accepted here (checks size means whole kept here (Draw caller h told)) (done size means whole kept here (Draw caller h told)) (ap is_refusal e) in
        tells caller h told hook person numbers (drawn size means whole kept here caller h told) refl (off _ _ a.0.1.1.1.0) (sym (ap (λ (x : World × Answer). x.1) a.1) ∙ e)

  pub whole_laws : Lawful size means → WholeLaws size means
  whole_laws lawful = record { ranged = in_range; valid_whole = valid_whole lawful; slip_tells = slip_tells lawful }
