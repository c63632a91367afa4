-- The numbers given, one after another.
use Rattle.std.proofs.Common.{◌≡◌, ℕ, ◌+◌, List, [], ◌∷◌, length, Some, None, Option, refl, ap, ◌∙◌, subst}
use Rattle.std.specs.List.{range_with_len}
use Rattle.faults.specs.declared.Fault.{Fault}
use Rattle.states.specs.declared.state.State.{State}
use Rattle.conditions.specs.declared.truth.Truth.{Truth}
use Rattle.plain.specs.Record.{World, Call, Fit, Issue, Amend, Withdraw, Draw, Take, Leave, Return, Answer, Refused, Number, Orphaned, Slip, Done, judged_by, first_fault, checks, done, step, answers}
use Rattle.plain.specs.Laws.{given}

-- a new number is one above the last, and is the last then; without one the last stays
abbrev Next : ℕ → Answer → ℕ → Type 0
Next last (Refused e) then = then ≡ last
Next last (Number n) then = (n ≡ last + 1) × (then ≡ last + 1)
Next last (Orphaned n) then = then ≡ last
Next last (Slip h p ns) then = then ≡ last
Next last Done then = then ≡ last

next_judged : (w : World) (cs : List (Option Fault)) (d : World × Answer) → Next w.last d.1 d.0.last
    → Next w.last (judged_by w (first_fault cs) d).1 (judged_by w (first_fault cs) d).0.last
next_judged w [] d h = h
next_judged w (None ∷ cs) d h = next_judged w cs d h
next_judged w (Some e ∷ cs) d h = refl

abbrev Counted : ℕ → List Answer → Type 0
Counted last all = given all ≡ range_with_len (last + 1) (length (given all))

same_last : (last then : ℕ) (more : List Answer) → then ≡ last → Counted then more → Counted last more
same_last last then more e c = subst (λ n. Counted n more) e c

counted_more : (last then : ℕ) (a : Answer) (more : List Answer) → Next last a then → Counted then more → Counted last (a ∷ more)
counted_more last then (Refused e) more h c = same_last last then more h c
counted_more last then (Number n) more h c = λ i. h.0 i ∷ (c ∙ ap (λ m. range_with_len (m + 1) (length (given more))) h.1) i
counted_more last then (Orphaned n) more h c = same_last last then more h c
counted_more last then (Slip k p ns) more h c = same_last last then more h c
counted_more last then Done more h c = same_last last then more h c

module _ (size : ℕ) (means : ℕ → State → Truth) (put see : ℕ → State → State) where
  next_done : (w : World) (k : Call) → Next w.last (done size means put see w k).1 (done size means put see w k).0.last
  next_done w (Fit owners kept) = refl
  next_done w (Issue caller h grantee terms) = (refl, refl)
  next_done w (Amend caller n terms) = (refl, refl)
  next_done w (Withdraw caller n) = refl
  next_done w (Draw caller h told) = refl
  next_done w (Take h p) = refl
  next_done w (Leave h p) = refl
  next_done w (Return caller h) = refl

  pub counted : (ks : List Call) (w : World) → given (answers size means put see w ks) ≡ range_with_len (w.last + 1) (length (given (answers size means put see w ks)))
  counted [] w = refl
  counted (k ∷ ks) w =
      let a = step size means put see w k in
      counted_more w.last a.0.last a.1 (answers size means put see a.0 ks)
      (next_judged w (checks size means put see w k) (done size means put see w k) (next_done w k)) (counted ks a.0)
