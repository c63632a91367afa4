-- A language given by its own conditions is lawful if there are at most 1,022 and each is steady.
use Rattle.std.proofs.Common.{◌∙◌, arith}
use Rattle.std.specs.Prelude.{ℕ, ◌+◌, ◌-◌, ◌≤◌, cond, ◌==◌, nat_lt, refl}
use Rattle.std.proofs.lemmas.Bool.{cond-false, le-ltb, ne_eqb}
use Rattle.states.specs.declared.state.State.{State}
use Rattle.states.specs.States.{ToldMore}
use Rattle.conditions.specs.declared.truth.Truth.{Truth}
use Rattle.conditions.specs.declared.truth.Truth.TheVariants.{True, False, Unknown}
use Rattle.conditions.specs.Laws.{Stays, Lawful}
use Rattle.conditions.specs.Own.{with_own}
use Rattle.conditions.specs.Steady.{stays_cond}

pub own_lawful : (count : ℕ) (own : ℕ → State → Truth) → count ≤ 1022 → ((k : ℕ) (s t : State) → ToldMore s t → Stays (own k s) (own k t)) → Lawful (count + 2) (with_own count own)
own_lawful count own few each = record {
  least = omega arith;
  most = omega arith;
  past = λ n s h.
      cond-false _ _ _ (ne_eqb n 0 (λ e. omega arith)) ∙ cond-false _ _ _ (ne_eqb n 1 (λ e. omega arith)) ∙ cond-false _ _ _ (le-ltb n (count + 2) h);
  always = λ s r. refl;
  never = λ s r. refl;
  steady = λ n s t r m.
      let rest : State → Truth = λ q. cond (nat_lt n (count + 2)) (own (n - 2) q) Unknown in
      stays_cond (n == 0) True _ True _ refl
      (stays_cond (n == 1) False (rest s) False (rest t) refl
      (stays_cond (nat_lt n (count + 2)) (own (n - 2) s) Unknown (own (n - 2) t) Unknown (each (n - 2) s t m) tt));
}
