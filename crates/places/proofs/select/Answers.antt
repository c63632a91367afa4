use Rattle.std.proofs.Common.{◌≡◌, ℕ, ◌+◌, Bool, true, false, get_or, sym, ◌∙◌, subst, arith}
use Rattle.std.proofs.lemmas.List.{get_or_default}
use Rattle.std.proofs.lemmas.Fn.{says_at}
use Rattle.std.specs.Fn.{FnReturnsAt}
use Rattle.places.proofs.Members.{Chosen, chosen_in, chosen_out}
use Rattle.places.proofs.select.Goals as goal
use Rattle.places.proofs.select.Goals.{then-test, else-test}

pub loop-i-preserved : goal.loop-i-preserved
loop-i-preserved g c =
    let P : ℕ → Bool → Type 0 = λ k b. (d : _) → FnReturnsAt g.F.Fn c.args.test (get_or c.args.items.now k d) b in
    let Q : ℕ → Type 0 = λ s. Chosen P s (c.loop-i.i + 1) in
    let here : (d : _) → get_or c.args.items.now c.loop-i.i c.index-items-i.result ≡ get_or c.args.items.now c.loop-i.i d =
    λ d. get_or_default c.args.items.now c.loop-i.i _ d c.loop-i-test.true in
    let R : (b : Bool) → (x : _) → Type 0 = λ b x. FnReturnsAt g.F.Fn c.args.test x b in
    elim c.if-test.branch [
      | then-test w ↦ subst Q (sym w.set-is) (chosen_in P c.loop-i.set _ c.loop-i.i c.loop-i.invariant w.with_place-set.ensures (λ d. subst (R true) (c.index-items-i.is ∙ here d) (says_at g.F.Fn c.test.ensures w.if-test.true)))
      | else-test w ↦ subst Q (sym w.set-is) (chosen_out P c.loop-i.set c.loop-i.i c.loop-i.invariant (λ d. subst (R false) (c.index-items-i.is ∙ here d) (says_at g.F.Fn c.test.ensures w.if-test.false)))
    ]

pub returns-clause-passing : goal.returns-clause-passing
returns-clause-passing g c = λ i d lt low. c.loop-i.invariant.0 i (omega (arith, c.loop-i-test.false)) low d
