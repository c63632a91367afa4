-- Laws of the parts of a state: what is known in a part, and that a part is told less than the whole.
use Rattle.std.specs.Prelude.{◌≡◌, ℕ, Bool, true, false, cond, Some, None, Option, nat_lt, refl}
use Rattle.std.proofs.Common.{sym, ap, ◌∙◌, ⊎_elim, arith}
use Rattle.std.proofs.lemmas.List.FromFn.{get_or-map-range_with_len}
use Rattle.std.proofs.lemmas.Bool.{cases_lt, le-ltb, cond-true, cond-false}
use Rattle.states.specs.declared.state.State.{State}
use Rattle.states.specs.States.{known, only_at, only, InRange, ToldMore}

pub none_known : (b : Bool) (o : Option ℕ) (n : ℕ) → cond b o None ≡ Some n → (b ≡ true) × (o ≡ Some n)
none_known true o n e = (refl, e)
none_known false o n e = cc

module _ (test : ℕ → Bool) where
  pub known_only : (s : State) (v : ℕ) → known (only test s) v ≡ cond (nat_lt v 8) (only_at test s v) None
  known_only s v =
      ⊎_elim
      (λ h. ap (λ o. cond (nat_lt v 8) o None) (get_or-map-range_with_len (only_at test s) 0 8 v v None h (omega arith)))
      (λ h. cond-false (nat_lt v 8) _ _ (le-ltb v 8 h) ∙ sym (cond-false (nat_lt v 8) _ _ (le-ltb v 8 h)))
      (cases_lt v 8)

  pub only_known : (s : State) (v n : ℕ) → known (only test s) v ≡ Some n → (nat_lt v 8 ≡ true) × (test v ≡ true) × (known s v ≡ Some n)
  only_known s v n e =
      let outer = none_known _ _ n (sym (known_only s v) ∙ e) in
      let inner = none_known _ _ n outer.1 in
      (outer.0, inner.0, inner.1)

  pub known_kept : (s : State) (v n : ℕ) → nat_lt v 8 ≡ true → test v ≡ true → known s v ≡ Some n → known (only test s) v ≡ Some n
  known_kept s v n low passes e = known_only s v ∙ cond-true (nat_lt v 8) _ _ low ∙ cond-true (test v) _ _ passes ∙ e

  pub only_less : (s : State) → ToldMore (only test s) s
  only_less s v n e = (only_known s v n e).2

  pub only_more : (s t : State) → ToldMore s t → ToldMore (only test s) (only test t)
  only_more s t more v n e = let k = only_known s v n e in known_kept t v n k.0 k.1 (more v n k.2)

  pub only_range : (s : State) → InRange s → InRange (only test s)
  only_range s range v n e = range v n (only_known s v n e).2
