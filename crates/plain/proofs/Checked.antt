-- What passing and failing checks mean.
use Rattle.std.proofs.Common.{◌≡◌, ℕ, zero, suc, Bool, true, false, cond, ltb, List, [], ◌∷◌, ◌++◌, IsErrAnd, Some, None, Ok, Err, Decides, Option, Result, sym, refl, ap, ◌∙◌, subst, ⊎_elim, arith}
use Rattle.std.proofs.lemmas.Result.{err_from_is_err_and}
use Rattle.std.specs.List.{AllByRecursion}
use Rattle.std.proofs.lemmas.Bool.{cases_Bool, true≢false}
use Rattle.chains.specs.Words.{Same}
use Rattle.faults.specs.declared.Fault.{Fault}
use Rattle.faults.specs.declared.Refusal.{Refusal}
use Rattle.faults.specs.declared.Refusal.TheVariants.{ValueOutOfRange, NoSuchHook, NoChain}
use Rattle.faults.specs.Faults as faults
use Rattle.faults.specs.Faults.{fault}
use Rattle.states.specs.declared.state.State.{State}
use Rattle.states.specs.Ranges.{out_at, check_from, range_check}
use Rattle.loans.specs.declared.state.HookState.{HookState}
use Rattle.loans.specs.declared.state.HookState.TheVariants.{In, Promised, Out}
use Rattle.loans.specs.declared.state.Event.TheVariants.{Draw}
use Rattle.loans.specs.Events.{judged}
use Rattle.plain.specs.Record.{World, Answer, Refused, Number, Orphaned, Slip, Done, check, chainless, found, first_fault, judged_by, passed}

abbrev pub Passed : List (Option Fault) → Type 0
Passed cs = AllByRecursion (λ (o : Option Fault). o ≡ None) cs

pub none_some : {A : Type 0} {x : A} → Some x ≡ None → ⊥
none_some e = let z : ◌≡◌ {A = ℕ} 0 1 = cc e in omega (arith, z)

pub off : {A : Type 0} (b : Bool) (x : A) → cond b (Some x) None ≡ None → b ≡ false
off true x e = absurd (none_some e)
off false x e = refl

pub all_pass : (cs : List (Option Fault)) → first_fault cs ≡ None → Passed cs
all_pass [] e = tt
all_pass (None ∷ cs) e = (refl, all_pass cs e)
all_pass (Some x ∷ cs) e = absurd (none_some e)

-- what holds before a call, and after it if it passes its checks, holds after it
pub keeps_judged : (P : World → Type 0) (w : World) (cs : List (Option Fault)) (d : World × Answer) → P w → (Passed cs → P d.0) → P (judged_by w (first_fault cs) d).0
keeps_judged P w [] d h f = f tt
keeps_judged P w (None ∷ cs) d h f = keeps_judged P w cs d h (λ a. f (refl, a))
keeps_judged P w (Some e ∷ cs) d h f = h

-- the number of a finding, 0 if there is none
abbrev pub code : Option Fault → ℕ
code None = 0
code (Some e) = faults.number_of e.refusal

pub code_check : (n : ℕ) (b : Bool) (r : Refusal) (p : ℕ) → (faults.number_of r ≡ n → ⊥) → (0 ≡ n → ⊥) → code (check b r p) ≡ n → ⊥
code_check n true r p a z e = a e
code_check n false r p a z e = z e

code_range_from : (s : State) (v n : ℕ) → code (found (check_from s v n)) ≡ 11 → ⊥
code_range_from s v zero e = omega arith
code_range_from s v (suc n) e = go (code_range_from s (suc v) n) (out_at s v) e
  where
    go : (code (found (check_from s (suc v) n)) ≡ 11 → ⊥) → (b : Bool) → code (found (cond b (Err (fault ValueOutOfRange v)) (check_from s (suc v) n))) ≡ 11 → ⊥
    go ih true e = omega arith
    go ih false e = ih e

pub code_range : (s : State) → code (found (range_check s)) ≡ 11 → ⊥
code_range s e = code_range_from s 0 8 e

pub code_draw : (h : ℕ) (k : HookState) (q : ℕ) → code (found (judged h k (Draw q))) ≡ 11 → ⊥
code_draw h In q e = go (ltb h 32) e
  where
    go : (b : Bool) → code (found (cond b (Ok (Promised q)) (Err (fault NoSuchHook h)))) ≡ 11 → ⊥
    go true e = omega arith
    go false e = omega arith
code_draw h (Promised p) q e = omega arith
code_draw h Out q e = omega arith

-- a call is refused for want of a chain only where a check says so
pub not_refused : (place : ℕ) (w : World) (cs : List (Option Fault)) (d : World × Answer) → AllByRecursion (λ (o : Option Fault). code o ≡ 11 → ⊥) cs
    → (d.1 ≡ Refused (fault NoChain place) → ⊥) → (judged_by w (first_fault cs) d).1 ≡ Refused (fault NoChain place) → ⊥
not_refused place w [] d a f e = f e
not_refused place w (None ∷ cs) d a f e = not_refused place w cs d a.1 f e
not_refused place w (Some x ∷ cs) d a f e = let same : x ≡ fault NoChain place = cc e in a.0 (ap (λ (y : Fault). faults.number_of y.refusal) same)

-- checks that find nothing leave the finding to those behind them
pub skipped : (before after : List (Option Fault)) → first_fault before ≡ None → first_fault (before ++ after) ≡ first_fault after
skipped [] after e = refl
skipped (None ∷ before) after e = skipped before after e
skipped (Some x ∷ before) after e = absurd (none_some e)

-- where the earlier checks find nothing, a call is refused for want of a chain exactly when it has none
pub for_want : (w : World) (before after : List (Option Fault)) (j : Bool) (d : World × Answer) {P : Type 0} → Decides j P
    → first_fault before ≡ None → AllByRecursion (λ (o : Option Fault). code o ≡ 11 → ⊥) after → (d.1 ≡ Refused (fault NoChain 0) → ⊥)
    → Same ((judged_by w (first_fault (before ++ (chainless j ∷ after))) d).1 ≡ Refused (fault NoChain 0)) (P → ⊥)
for_want w before after j d dec pass rest other =
    let e = skipped before (chainless j ∷ after) pass in (
      λ r p. not_refused 0 w (chainless j ∷ after) d (subst (λ b. code (chainless b) ≡ 11 → ⊥) (sym (dec.1 p)) (λ z. omega arith), rest) other (subst (λ o. (judged_by w o d).1 ≡ Refused (fault NoChain 0)) e r),
      λ none. ap (λ o. (judged_by w o d).1) e ∙ ⊎_elim (λ t. absurd (none (dec.0 t))) (λ t. ap (λ b. (judged_by w (first_fault (chainless b ∷ after)) d).1) t) (cases_Bool j),
    )

abbrev pub is_refusal : Answer → Bool
is_refusal (Refused e) = true
is_refusal (Number n) = false
is_refusal (Orphaned n) = false
is_refusal (Slip h p l) = false
is_refusal Done = false

-- a call that is not refused passed its checks, and was done
pub accepted : (w : World) (cs : List (Option Fault)) (d : World × Answer) → is_refusal (judged_by w (first_fault cs) d).1 ≡ false → Passed cs × (judged_by w (first_fault cs) d ≡ d)
accepted w [] d e = (tt, refl)
accepted w (None ∷ cs) d e = let x = accepted w cs d e in ((refl, x.0), x.1)
accepted w (Some x ∷ cs) d e = absurd (true≢false e)

-- ---- for functions that only check

ok_err : {u : Unit {0}} {e : Fault} → ◌≡◌ {A = Result (Unit {0}) Fault} (Ok u) (Err e) → ⊥
ok_err k = let z : ◌≡◌ {A = ℕ} 0 1 = cc k in omega (arith, z)

-- checks that pass leave the answer to those behind them, and one that fails settles it
pub through : (before after : List (Option Fault)) (u : Unit {0}) → Ok u ≡ passed before → passed (before ++ after) ≡ passed after
through [] after u k = refl
through (None ∷ before) after u k = through before after u k
through (Some e ∷ before) after u k = absurd (ok_err k)

pub stopped : (before after : List (Option Fault)) (e : Fault) → Err e ≡ passed before → Err e ≡ passed (before ++ after)
stopped [] after e k = absurd (ok_err (sym k))
stopped (None ∷ before) after e k = stopped before after e k
stopped (Some x ∷ before) after e k = k

-- an answer that is one check's finding
pub one_check : (r : Result (Unit {0}) Fault) → r ≡ passed (found r ∷ [])
one_check (Ok u) = refl
one_check (Err e) = refl

-- an error that was passed on is the finding of the checks so far, and so of all
pub passed_on : (r : Result (Unit {0}) Fault) (e : Fault) → IsErrAnd r (λ y. y ≡ e) → (before after : List (Option Fault)) → Err e ≡ passed before → r ≡ passed (before ++ after)
passed_on r e told before after k =
    let p = err_from_is_err_and r told in
    p.1 ∙ ap (λ (f : Fault). Err f) p.2 ∙ stopped before after e k
