-- A call that ends with an event of a key: what the loans answer and leave is what the plain step does.
use Rattle.std.proofs.Common.{◌≡◌, ℕ, set, List, [], ◌∷◌, ◌++◌, map, reverse, is_some, Some, None, Ok, Err, Option, Result, unwrap_or, sym, refl, ap, ◌∙◌, subst, arith}
use Rattle.faults.specs.declared.Fault.{Fault}
use Rattle.states.specs.declared.state.State.{State}
use Rattle.states.specs.declared.report.Report.{Report}
use Rattle.states.specs.Reports.{state_of}
use Rattle.states.specs.States.{kept}
use Rattle.conditions.specs.declared.truth.Truth.{Truth}
use Rattle.grants.specs.declared.Grant.{Grant}
use Rattle.search.specs.declared.named.Named.{Named}
use Rattle.search.specs.Answers.{named_of}
use Rattle.loans.specs.declared.state.HookState.{HookState}
use Rattle.loans.specs.declared.state.HookState.TheVariants.{Promised}
use Rattle.loans.specs.declared.state.Event.{Event}
use Rattle.loans.specs.declared.state.Event.TheVariants as event
use Rattle.loans.specs.Events.{judged, leads_to}
use Rattle.loans.proofs.Listed.{listed}
use Rattle.loans.specs.declared.table.Loans.{Loans}
use Rattle.loans.specs.Hooks as loans
use Rattle.loans.specs.Hooks.{hooks, answered, Leaves}
use Rattle.loans.proofs.Judged.{ok_allowed}
use Rattle.plain.specs.Record.{World, Answer, Refused, Done, Draw, found, first_fault, chainless, draw_before, judged_by, hook_at, number_of, with_hook, step, whole}
use Rattle.plain.specs.Record as plain
use Rattle.ledger.specs.declared.held.Ledger.{Ledger}
use Rattle.ledger.specs.Answers.{done, unless}
use Rattle.ledger.specs.Ledgers.{world_with, owner_in, chain_on_record, named_on}

none_some : {A : Type 0} {x : A} → Some x ≡ None → ⊥
none_some e = let z : ◌≡◌ {A = ℕ} 0 1 = cc e in omega (arith, z)

ok_err : {A E : Type 0} {a : A} {e : E} → ◌≡◌ {A = Result A E} (Ok a) (Err e) → ⊥
ok_err k = let z : ◌≡◌ {A = ℕ} 0 1 = cc k in omega (arith, z)

-- the first fault, behind checks that find none, and before any others
behind : (cs more : List (Option Fault)) → first_fault cs ≡ None → first_fault (cs ++ more) ≡ first_fault more
behind [] more e = refl
behind (None ∷ cs) more e = behind cs more e
behind (Some x ∷ cs) more e = absurd (none_some e)

first : (cs more : List (Option Fault)) (x : Fault) → first_fault cs ≡ Some x → first_fault (cs ++ more) ≡ Some x
first [] more x e = absurd (none_some (sym e))
first (None ∷ cs) more x e = first cs more x e
first (Some y ∷ cs) more x e = e

-- what `unless` tells
unless_ok : {A : Type 0} (f : Option Fault) (a b : A) → Ok b ≡ unless f a → (f ≡ None) × (b ≡ a)
unless_ok None a b e = (refl, cc e)
unless_ok (Some x) a b e = absurd (ok_err e)

unless_err : {A : Type 0} (f : Option Fault) (a : A) (x : Fault) → Err x ≡ unless f a → f ≡ Some x
unless_err None a x e = absurd (ok_err (sym e))
unless_err (Some y) a x e = let same : y ≡ x = cc (sym e) in ap (λ (z : Fault). Some z) same

-- what a call answers by the judgement of its event: a, unless it refuses
abbrev pub answered_by : Result HookState Fault → Answer → Answer
answered_by (Ok s) a = a
answered_by (Err e) a = Refused e

pub by_ok : (a : Answer) (j : Result HookState Fault) → Ok tt ≡ answered j → answered_by j a ≡ a
by_ok a (Ok s) e = refl
by_ok a (Err x) e = absurd (ok_err e)

pub by_err : (a : Answer) (j : Result HookState Fault) (x : Fault) → Err x ≡ answered j → answered_by j a ≡ Refused x
by_err a (Ok s) x e = absurd (ok_err (sym e))
by_err a (Err y) x e = sym (ap (λ (f : Fault). Refused f) (cc e))

-- a call whose last check and whose effect are an event of a key
module _ (l : Ledger) (before after : Loans) (h : ℕ) (event : Event) (cs : List (Option Fault)) (a : Answer) where
  abbrev was : World
  was = world_with l (hooks before)

  abbrev Came : Result HookState Fault → Result HookState Fault → Type 0
  Came i j = judged_by was (first_fault (cs ++ (found j ∷ []))) (with_hook was h (leads_to event), a) ≡ (world_with l (hooks after), answered_by i a)

  pub happened : first_fault cs ≡ None → Leaves before h (judged h (loans.state_of before h) event) after
      → Came (judged h (loans.state_of before h) event) (judged h (hook_at was h) event)
  happened pass law = subst (λ k. Came (judged h (loans.state_of before h) event) (judged h k event)) (listed before h) (go (judged h (loans.state_of before h) event) refl law)
    where
      go : (j : Result HookState Fault) → judged h (loans.state_of before h) event ≡ j → Leaves before h j after → Came j j
      go (Ok s) e moved =
          ap (λ f. judged_by was f (with_hook was h (leads_to event), a)) (behind cs (None ∷ []) pass)
          ∙ ap (λ (ks : List HookState). (world_with l ks, a)) (sym (moved.list ∙ ap (set (hooks before) h) (ok_allowed h (loans.state_of before h) s event e).1))
      go (Err x) e same =
          ap (λ f. judged_by was f (with_hook was h (leads_to event), a)) (behind cs (Some x ∷ []) pass)
          ∙ ap (λ (ls : Loans). (world_with l (hooks ls), Refused x)) (sym same)

-- the same of a call that answers no more than that it is done
pub done_so : (l : Ledger) (before after : Loans) (h : ℕ) (event : Event) (cs : List (Option Fault)) → first_fault cs ≡ None
    → let j = judged h (loans.state_of before h) event in
    Leaves before h j after
    → let w = world_with l (hooks before) in
    let x = judged_by w (first_fault (cs ++ (found (judged h (hook_at w h) event) ∷ []))) (with_hook w h (leads_to event), Done) in
    (answered j ≡ done x.1) × (world_with l (hooks after) ≡ x.0)
done_so l before after h event cs pass law =
    let so = happened l before after h event cs Done pass law in
    (told (judged h (loans.state_of before h) event) ∙ sym (ap (λ (x : World × Answer). done x.1) so), sym (ap (λ (x : World × Answer). x.0) so))
  where
    told : (j : Result HookState Fault) → answered j ≡ done (answered_by j Done)
    told (Ok s) = refl
    told (Err e) = refl

-- a draw, by its chain
module _ (size : ℕ) (means : ℕ → State → Truth) (l : Ledger) (before : Loans) (p h : ℕ) (report : Report) where
  abbrev w : World
  w = world_with l (hooks before)

  abbrev pub chain : List Grant
  chain = unwrap_or (chain_on_record size means l p h report) []

  abbrev front : List (Option Fault)
  front = draw_before p h (owner_in l h) (state_of p None report) ++ (chainless (is_some (chain_on_record size means l p h report)) ∷ [])

  abbrev pub slipped : Answer
  slipped = plain.Slip h p (reverse (map number_of chain))

  pub draw_named : (n : Named) → Ok n ≡ named_on size means l p h report → n ≡ named_of chain
  draw_named n e = (unless_ok (first_fault front) (named_of chain) n e).1

  pub draw_unjustified : (x : Fault) → Err x ≡ named_on size means l p h report → step size means kept whole w (Draw p h report) ≡ (w, Refused x)
  draw_unjustified x e =
      ap (λ f. judged_by w f (with_hook w h (Promised p), slipped)) (first front (found (judged h (hook_at w h) (event.Draw p)) ∷ []) x (unless_err (first_fault front) (named_of chain) x e))

  pub draw_justified : (n : Named) → Ok n ≡ named_on size means l p h report → (after : Loans)
      → let j = judged h (loans.state_of before h) (event.Draw p) in
      Leaves before h j after → step size means kept whole w (Draw p h report) ≡ (world_with l (hooks after), answered_by j slipped)
  draw_justified n e after law = happened l before after h (event.Draw p) front slipped (unless_ok (first_fault front) (named_of chain) n e).0 law
