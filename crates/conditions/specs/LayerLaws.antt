-- The layers over lawful languages are lawful.
use Rattle.std.specs.Prelude.{◌≡◌, ℕ, ◌-◌, ◌<◌, ◌≤◌, Bool, not, ◌||◌, nat_lt}
use Rattle.std.proofs.Common.{sym, subst, ◌∙◌, ⊎_elim, arith}
use Rattle.std.proofs.lemmas.Bool.{cases_lt, lt-ltb, le-ltb, cond-true, cond-false}
use Rattle.states.specs.declared.state.State.{State}
use Rattle.states.specs.States.{hidden, names, InRange, ToldMore}
use Rattle.states.specs.Parts.{only_more, only_range}
use Rattle.conditions.specs.declared.truth.Truth.{Truth}
use Rattle.conditions.specs.declared.truth.Truth.TheVariants.{Unknown}
use Rattle.conditions.specs.Laws.{Lawful, Stays}
use Rattle.conditions.specs.Layers.{distrusted, joined_size, joined}

pub distrust_lawful : (set : ℕ) {count : ℕ} {truth : ℕ → State → Truth} → Lawful count truth → Lawful count (distrusted set truth)
distrust_lawful set l =
    let test : ℕ → Bool = λ v. nat_lt v 2 || not (names set v) in
    record {
      least = l.least;
      most = l.most;
      past = λ n s h. l.past n (hidden set s) h;
      always = λ s r. l.always (hidden set s) (only_range test s r);
      never = λ s r. l.never (hidden set s) (only_range test s r);
      steady = λ n s t r m. l.steady n (hidden set s) (hidden set t) (only_range test t r) (only_more test s t m);
    }

module _ {a : ℕ} {b : ℕ} {first second : ℕ → State → Truth} (f : Lawful a first) (g : Lawful b second) where
  -- where a number falls: in the first, in the second, or past both
  in_first : (n : ℕ) (s : State) → n < a → joined a first second n s ≡ first n s
  in_first n s h = cond-true _ _ _ (lt-ltb n a h)

  in_second : (n : ℕ) (s : State) → a ≤ n → n < 1024 → joined a first second n s ≡ second (n - a) s
  in_second n s h k = cond-false _ _ _ (le-ltb n a h) ∙ cond-true _ _ _ (lt-ltb n 1024 k)

  in_none : (n : ℕ) (s : State) → a ≤ n → 1024 ≤ n → joined a first second n s ≡ Unknown
  in_none n s h k = cond-false _ _ _ (le-ltb n a h) ∙ cond-false _ _ _ (le-ltb n 1024 k)

  past : (n : ℕ) (s : State) → joined_size a b ≤ n → joined a first second n s ≡ Unknown
  past n s h =
      let small : a ≤ n = omega (arith, f.most, g.least) in
      ⊎_elim (λ k. in_second n s small k ∙ g.past (n - a) s (omega arith)) (λ k. in_none n s small k) (cases_lt n 1024)

  -- what stays in the part that a number falls in stays in the whole
  carried : (n : ℕ) (s t : State) {x y : Truth} → joined a first second n s ≡ x → joined a first second n t ≡ y → Stays x y → Stays (joined a first second n s) (joined a first second n t)
  carried n s t {x} {y} ex ey h = subst (λ z. Stays z (joined a first second n t)) (sym ex) (subst (Stays x) (sym ey) h)

  steady : (n : ℕ) (s t : State) → InRange t → ToldMore s t → Stays (joined a first second n s) (joined a first second n t)
  steady n s t r m =
      ⊎_elim
      (λ h. carried n s t (in_first n s h) (in_first n t h) (f.steady n s t r m))
      (λ h. ⊎_elim
      (λ k. carried n s t (in_second n s h k) (in_second n t h k) (g.steady (n - a) s t r m))
      (λ k. carried n s t (in_none n s h k) (in_none n t h k) tt)
      (cases_lt n 1024))
      (cases_lt n a)

  pub joined_lawful : Lawful (joined_size a b) (joined a first second)
  joined_lawful = record {
    least = omega (arith, f.least);
    most = omega arith;
    past = past;
    always = λ s r. in_first 0 s (omega (arith, f.least)) ∙ f.always s r;
    never = λ s r. in_first 1 s (omega (arith, f.least)) ∙ f.never s r;
    steady = steady;
  }
