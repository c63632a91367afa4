-- A slip that a draw hands out can be spent at its cabinet, and one that is refused comes back whole.
use Rattle.std.proofs.Common.{◌≡◌, ℕ, ◌<◌, Bool, true, cond, ◌||◌, eqb, List, [], ◌∷◌, length, IfOk, IfErr, Some, None, Ok, Err, Option, Result, sym, refl, ap, ◌∙◌, subst, ⊎_elim, arith}
use Rattle.std.proofs.lemmas.List.FromFn.{length-map-range_with_len}
use Rattle.std.proofs.lemmas.List.{get_or-set_same}
use Rattle.std.proofs.lemmas.Bool.{cases_lt, eq-eqb, lt-ltb}
use Rattle.faults.specs.declared.Fault.{Fault}
use Rattle.faults.specs.declared.Refusal.TheVariants.{NoSuchHook, NotPromised}
use Rattle.faults.specs.Faults.{fault}
use Rattle.states.specs.declared.state.State.{State}
use Rattle.states.specs.declared.report.Report.{Report}
use Rattle.states.specs.States.{kept}
use Rattle.conditions.specs.declared.truth.Truth.{Truth}
use Rattle.loans.specs.declared.state.HookState.{HookState}
use Rattle.loans.specs.declared.state.HookState.TheVariants.{In, Promised, Out}
use Rattle.loans.specs.declared.state.Event.TheVariants as event
use Rattle.loans.specs.Events.{judged}
use Rattle.loans.specs.Hooks.{state_of}
use Rattle.plain.specs.Record as plain
use Rattle.plain.specs.Record.{World, Answer, Refused, Done, Draw, Take, Leave, first_fault, found, check, checks, done, hook_at, owner, judged_by, person, real_hook, with_hook, whole}
use Rattle.controller.specs.declared.cabinet.Cabinet.{Cabinet}
use Rattle.controller.specs.declared.slip.Slip.{Slip}
use Rattle.controller.specs.declared.slip.RefusedSlip.{RefusedSlip}
use Rattle.controller.specs.Cabinets.{world, reply, Follows, slip_of, spent}
use Rattle.controller_cases.specs.Promises.{Home}

none_some : {A : Type 0} {x : A} → Some x ≡ None → ⊥
none_some e = let z : ◌≡◌ {A = ℕ} 0 1 = cc e in omega (arith, z)

ok_err : {A E : Type 0} {a : A} {e : E} → ◌≡◌ {A = Result A E} (Ok a) (Err e) → ⊥
ok_err k = let z : ◌≡◌ {A = ℕ} 0 1 = cc k in omega (arith, z)

-- where no check finds a fault, the second does not
second : (a b : Option Fault) (cs : List (Option Fault)) → first_fault (a ∷ b ∷ cs) ≡ None → b ≡ None
second None None cs e = refl
second None (Some x) cs e = absurd (none_some e)
second (Some x) b cs e = absurd (none_some e)

-- a hook that passes its check is one of the 32
real : (h o : ℕ) → real_hook h o ≡ None → h < 32
real h o e =
    ⊎_elim
    (λ lt. absurd (none_some (sym (ap (λ b. check (b || eqb o 0) NoSuchHook h) (lt-ltb 31 h lt)) ∙ e)))
    (λ le. omega arith)
    (cases_lt 31 h)

module _ (size : ℕ) (means : ℕ → State → Truth) (w : World) (long : length w.hooks ≡ 32) (p h : ℕ) (told : Report) (slip : Slip) where
  abbrev did : World × Answer
  did = done size means kept whole w (Draw p h told)

  promised : (f : Option Fault) → first_fault (checks size means kept whole w (Draw p h told)) ≡ f → Ok slip ≡ slip_of (judged_by w f did).1
      → hook_at (judged_by w f did).0 slip.hook ≡ Promised slip.person
  promised (Some e) pass k = absurd (ok_err k)
  promised None pass k =
      let lt : h < 32 = real h (owner w h) (second (person p 2) (real_hook h (owner w h)) _ pass) in
      let hook : slip.hook ≡ h = cc k in
      let caller : slip.person ≡ p = cc k in
      ap (hook_at did.0) hook ∙ get_or-set_same w.hooks h (Promised p) In (omega (arith, lt, long)) ∙ ap (λ (q : ℕ). Promised q) (sym caller)

-- a taking or leaving of a promised key
spendable : (w : World) (slip : Slip) (end : HookState) (b : Bool) → b ≡ true
    → spent slip (judged_by w (first_fault (found (cond b (Ok end) (Err (fault NotPromised slip.hook))) ∷ [])) (with_hook w slip.hook end, Done)).1 ≡ Ok tt
spendable w slip end b e = ap (λ x. spent slip (judged_by w (first_fault (found (cond x (Ok end) (Err (fault NotPromised slip.hook))) ∷ [])) (with_hook w slip.hook end, Done)).1) e

module _ {L : Type 0} (size : L → ℕ) (says : L → ℕ → State → Truth) where
  pub home : (before after : Cabinet L) (p h : ℕ) (told : Report) (r : Result Slip Fault)
      → r ≡ slip_of (reply size says before (Draw p h told)) → Follows size says before (Draw p h told) after
      → IfOk r (Home after)
  home before after p h told (Err e) k f = tt
  home before after p h told (Ok slip) k f =
      subst (λ w. hook_at w slip.hook ≡ Promised slip.person) (sym f.held) (promised (size before.language) (says before.language) (world before) (length-map-range_with_len (state_of before.loans) 0 32) p h told slip _ refl k)

  pub takes : (c : Cabinet L) (slip : Slip) → Home c slip → spent slip (reply size says c (Take slip.hook slip.person)) ≡ Ok tt
  takes c slip at =
      ap (λ k. spent slip (judged_by (world c) (first_fault (found (judged slip.hook k (event.Take slip.person)) ∷ [])) (with_hook (world c) slip.hook Out, Done)).1) at
      ∙ spendable (world c) slip Out (eqb slip.person slip.person) (eq-eqb slip.person slip.person refl)

  pub leaves : (c : Cabinet L) (slip : Slip) → Home c slip → spent slip (reply size says c (Leave slip.hook slip.person)) ≡ Ok tt
  leaves c slip at =
      ap (λ k. spent slip (judged_by (world c) (first_fault (found (judged slip.hook k (event.Leave slip.person)) ∷ [])) (with_hook (world c) slip.hook In, Done)).1) at
      ∙ spendable (world c) slip In (eqb slip.person slip.person) (eq-eqb slip.person slip.person refl)

-- a slip that is refused is the one that was given
back : (slip : Slip) (a : Answer) → IfErr (spent slip a) (λ (refused : RefusedSlip). refused.slip ≡ slip)
back slip (Refused e) = refl
back slip (plain.Number n) = tt
back slip (plain.Orphaned n) = tt
back slip (plain.Slip hook person numbers) = tt
back slip Done = tt

pub comes_back : (slip : Slip) (a : Answer) (r : Result (Unit {0}) RefusedSlip) → r ≡ spent slip a → IfErr r (λ (refused : RefusedSlip). refused.slip ≡ slip)
comes_back slip a r e = subst (λ x. IfErr x (λ (refused : RefusedSlip). refused.slip ≡ slip)) (sym e) (back slip a)
