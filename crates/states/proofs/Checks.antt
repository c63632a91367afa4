-- The check of ranges, variable by variable.
use Rattle.std.proofs.Common.{◌≡◌, ℕ, zero, suc, ◌-◌, ◌<◌, ◌≤◌, true, false, ◌||◌, ltb, Some, None, Err, Option, sym, refl, ap, ◌∙◌, arith}
use Rattle.std.proofs.lemmas.Bool.{cond-true, cond-false, or_parts, ltb-false, ltb-true, le-ltb}
use Rattle.faults.specs.declared.Refusal.TheVariants.{ValueOutOfRange}
use Rattle.faults.specs.Faults.{fault}
use Rattle.states.specs.declared.state.State.{State}
use Rattle.states.specs.States.{known, least, greatest, InRangeAt, InRange}
use Rattle.states.specs.Ranges.{out, out_at, check_from, range_check}
use Rattle.states.specs.Parts.{none_known}

module _ (s : State) where
  left : (v : ℕ) → v < 8 → check_from s v (8 - v) ≡ check_from s v (suc (8 - suc v))
  left v h = let more : 8 - v ≡ suc (8 - suc v) = omega arith in ap (check_from s v) more

  -- nothing refused before v, the check goes on at v
  pub passed : (v : ℕ) → v ≤ 8 → ((k : ℕ) → k < v → out_at s k ≡ false) → range_check s ≡ check_from s v (8 - v)
  passed zero h inside = refl
  passed (suc v) h inside = passed v (omega arith) (λ k l. inside k (omega arith)) ∙ left v (omega arith) ∙ cond-false _ _ _ (inside v (omega arith))

  pub refused : (v : ℕ) → v < 8 → out_at s v ≡ true → ((k : ℕ) → k < v → out_at s k ≡ false) → range_check s ≡ Err (fault ValueOutOfRange v)
  refused v h e inside = passed v (omega arith) inside ∙ left v h ∙ cond-true _ _ _ e

pub in_at : (s : State) (v : ℕ) → out_at s v ≡ false → InRangeAt s v
in_at s v inside n e =
    let parts = or_parts _ _ (sym (ap (λ o. out o v) e) ∙ inside) in
    (ltb-false n (least v) parts.0, ltb-false (greatest v) n parts.1)

-- past the eighth variable nothing is known
pub all_in : (s : State) → ((v : ℕ) → v < 8 → out_at s v ≡ false) → InRange s
all_in s inside v n e = in_at s v (inside v (ltb-true v 8 (none_known _ _ n e).0)) n e

out_known : (s : State) (v : ℕ) (o : Option ℕ) → known s v ≡ o → out o v ≡ true → InRangeAt s v → ⊥
out_known s v None e k h = cc
out_known s v (Some n) e k h =
    let low : ltb n (least v) ≡ false = le-ltb n (least v) (h n e).0 in
    let high : ltb (greatest v) n ≡ false = le-ltb (greatest v) n (h n e).1 in
    let both : (ltb n (least v) || ltb (greatest v) n) ≡ false = λ i. low i || high i in
    cc

pub out_at_lem : (s : State) (v : ℕ) → out_at s v ≡ true → InRangeAt s v → ⊥
out_at_lem s v e = out_known s v (known s v) refl e
