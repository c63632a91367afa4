use Rattle.std.proofs.Common.{◌≡◌, ◌+◌, ◌-◌, ◌<◌, ◌≤◌, ◌∷◌, length, Some, None, Err, sym, ap, ◌∙◌, subst, arith, length-append, rules}
use Rattle.std.specs.Option.{option_map, ok_or}
use Rattle.std.proofs.lemmas.Result.{err_from_is_err_and}
use Rattle.faults.specs.declared.Fault.{Fault}
use Rattle.commands.specs.declared.drafts.Draft.{Draft}
use Rattle.commands.specs.Law.{ill}
use Rattle.commands.specs.Drafts.{left, taken, closed}
use Rattle.commands.specs.Reading.{ended, walk}
use Rattle.commands.proofs.Tags.{ok_some, err_none}
use Rattle.commands.proofs.Walks.{walk_none, walk_some, walk_end, cut_stands}
use Rattle.commands.proofs.Bridge.{Took, took, stuck, next_some}
use Rattle.commands.proofs.reader.walk.Goals as goal

-- the step that the reader took
step-taken : (c : goal.After-rest-1) → Took c.loop-rest.invariant.0 c.loop-rest.rest.now (left c.in_ok-step.step)
step-taken c =
    let a = ok_some c.advance.result c.at.result c.in_ok-step.step (sym c.in_ok-step.ensures.value) in
    took c.loop-rest.invariant.0 c.loop-rest.rest.now (left c.in_ok-step.step)
    (subst (λ (d : Draft). taken d c.loop-rest.rest.now ≡ Some (left c.in_ok-step.step)) c.loop-rest.invariant.1 (sym c.advance.ensures ∙ ap (option_map left) a))

pub returns-in_err-step : goal.returns-in_err-step
returns-in_err-step c =
    let p = err_from_is_err_and c.from_residual.result c.from_residual.ensures.1 in
    let before = c.loop-rest.invariant.0 in
    let rest = c.loop-rest.rest.now in
    let at = length c.args.bytes.now - length c.loop-rest.rest.now in
    let e = err_none c.advance.result c.at.result c.in_err-step.field-0.0 (sym c.in_err-step.ensures.value) in
    let n = subst (λ (d : Draft). taken d c.loop-rest.rest.now ≡ None) c.loop-rest.invariant.1 (sym c.advance.ensures ∙ ap (option_map left) e.0) in
    let h : 0 < length c.loop-rest.rest.now = search rules in
    p.1 ∙ ap (λ (f : Fault). Err f) (p.2 ∙ sym e.1 ∙ c.at.ensures) ∙ sym (walk_none before at rest h (stuck before rest n)) ∙ c.loop-rest.invariant.2

pub loop-rest-smaller : goal.loop-rest-smaller
loop-rest-smaller c =
    let t = step-taken c in
    let s = cut_stands c.loop-rest.rest.now (t.field, c.in_ok-step.step.rest.now) t.cut_off_bytes in
    omega (arith, simp length-append at (ap length s.is))

pub loop-rest-preserved : goal.loop-rest-preserved
loop-rest-preserved c =
    let t = step-taken c in
    let f = t.field in
    let before = c.loop-rest.invariant.0 in
    let n = length c.args.bytes.now in
    let here = length c.loop-rest.rest.now in
    let there = length c.in_ok-step.step.rest.now in
    let s = cut_stands c.loop-rest.rest.now (f, c.in_ok-step.step.rest.now) t.cut_off_bytes in
    let l : length c.loop-rest.rest.now ≡ 3 + (length f.1 + length c.in_ok-step.step.rest.now) = ap length s.is ∙ simp length-append (omega arith) in
    let m : length c.loop-rest.rest.now ≤ length c.args.bytes.now = c.loop-rest.invariant.3 in
    let o : (length c.args.bytes.now - length c.loop-rest.rest.now) + (3 + length f.1) ≡ length c.args.bytes.now - length c.in_ok-step.step.rest.now = omega arith in (
      f ∷ before,
      t.draft,
      ap (λ k. walk 0 (f ∷ before) k c.in_ok-step.step.rest.now) (sym o)
          ∙ sym (walk_some before (n - here) c.loop-rest.rest.now f c.in_ok-step.step.rest.now s (next_some before c.loop-rest.rest.now f c.in_ok-step.step.rest.now t.cut_off_bytes t.kept))
          ∙ c.loop-rest.invariant.2,
      omega arith,
    )

pub returns : goal.returns
returns c =
    let z : length c.loop-rest.rest.now ≡ 0 = search rules in
    let n : length c.args.bytes.now - length c.loop-rest.rest.now ≡ length c.args.bytes.now = omega arith in
    let fs = c.loop-rest.invariant.0 in
    c.ok_or-2.ensures.value ∙ (λ i. ok_or (c.close.ensures i) (c.at-2.ensures i)) ∙ ap (λ (d : Draft). ok_or (closed d) (ill (length c.args.bytes.now))) c.loop-rest.invariant.1
    ∙ ap (λ k. ended fs k) (sym n) ∙ sym (walk_end fs (length c.args.bytes.now - length c.loop-rest.rest.now) c.loop-rest.rest.now z) ∙ c.loop-rest.invariant.2
