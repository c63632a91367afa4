-- An event is accepted just if it is allowed, and leads to one state.
use Rattle.std.proofs.Common.{◌≡◌, ℕ, Bool, true, false, cond, eqb, ltb, Ok, Err, refl, ap, ◌∙◌, arith}
use Rattle.std.proofs.lemmas.Bool.{cond-true, eq-eqb, lt-ltb, eqb-true, ltb-true}
use Rattle.faults.specs.declared.Fault.{Fault}
use Rattle.loans.specs.declared.state.HookState.{HookState}
use Rattle.loans.specs.declared.state.HookState.TheVariants.{In, Promised, Out}
use Rattle.loans.specs.declared.state.Event.{Event}
use Rattle.loans.specs.declared.state.Event.TheVariants.{Draw, Take, Leave, Return}
use Rattle.loans.specs.Events.{judged, Allowed, leads_to}
use Rattle.loans.specs.Hooks.{gone_out}

pub allowed_ok : (h : ℕ) (s : HookState) (e : Event) → Allowed h s e → judged h s e ≡ Ok (leads_to e)
allowed_ok h s (Draw q) a = ap (λ x. judged h x (Draw q)) a.0 ∙ cond-true (ltb h 32) _ _ (lt-ltb h 32 a.1)
allowed_ok h s (Take q) a = ap (λ x. judged h x (Take q)) a ∙ cond-true (eqb q q) _ _ (eq-eqb q q refl)
allowed_ok h s (Leave q) a = ap (λ x. judged h x (Leave q)) a ∙ cond-true (eqb q q) _ _ (eq-eqb q q refl)
allowed_ok h s Return a = ap (λ x. judged h x Return) a

-- what an accepted test tells
passed : (t : Bool) (s u : HookState) (f : Fault) → cond t (Ok s) (Err f) ≡ Ok u → (t ≡ true) × (u ≡ s)
passed true s u f e = (refl, cc)
passed false s u f e = let z : ◌≡◌ {A = ℕ} 0 1 = cc in absurd (omega arith)

refused : (f : Fault) (u : HookState) → Err f ≡ Ok u → ⊥
refused f u e = let z : ◌≡◌ {A = ℕ} 0 1 = cc in omega arith

pub ok_allowed : (h : ℕ) (s u : HookState) (e : Event) → judged h s e ≡ Ok u → Allowed h s e × (u ≡ leads_to e)
ok_allowed h In u (Draw q) is = let t = passed (ltb h 32) (Promised q) u _ is in ((refl, ltb-true h 32 t.0), t.1)
ok_allowed h In u (Take q) is = absurd (refused _ u is)
ok_allowed h In u (Leave q) is = absurd (refused _ u is)
ok_allowed h In u Return is = absurd (refused _ u is)
ok_allowed h (Promised p) u (Draw q) is = absurd (refused _ u is)
ok_allowed h (Promised p) u (Take q) is = let t = passed (eqb p q) Out u _ is in (ap Promised (eqb-true p q t.0), t.1)
ok_allowed h (Promised p) u (Leave q) is = let t = passed (eqb p q) In u _ is in (ap Promised (eqb-true p q t.0), t.1)
ok_allowed h (Promised p) u Return is = absurd (refused _ u is)
ok_allowed h Out u (Draw q) is = absurd (refused _ u is)
ok_allowed h Out u (Take q) is = absurd (refused _ u is)
ok_allowed h Out u (Leave q) is = absurd (refused _ u is)
ok_allowed h Out u Return is = (refl, cc)

-- only a promised key goes out
pub out_from : (h : ℕ) (s : HookState) (e : Event) → judged h s e ≡ Ok Out → gone_out s ≡ Out
out_from h In e is = gone e (ok_allowed h In Out e is)
  where
    gone : (e : Event) → Allowed h In e × (Out ≡ leads_to e) → In ≡ Out
    gone (Draw q) a = let z : ◌≡◌ {A = ℕ} 0 1 = cc in absurd (omega arith)
    gone (Take q) a = a.0 ∙ (let z : ◌≡◌ {A = ℕ} 0 1 = cc in absurd (omega arith))
    gone (Leave q) a = let z : ◌≡◌ {A = ℕ} 0 1 = cc in absurd (omega arith)
    gone Return a = a.0
out_from h (Promised p) e is = refl
out_from h Out e is = refl
