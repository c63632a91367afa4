-- An array made by calls at each place in turn.
use Rattle.std.proofs.Common.{◌≡◌, ℕ, zero, suc, ◌+◌, ◌<◌, ◌≤◌, List, get_or, sym, ap, ◌∙◌, subst, arith, ⊎_elim}
use Rattle.std.proofs.lemmas.Bool.{cases_lt}
use Rattle.std.proofs.lemmas.List.FromFn.{fill_by_all}
use Rattle.std.specs.List.{range_with_len}
use Rattle.std.specs.Fn.{Called}
use Rattle.std.specs.Array.{IsFromFnResultFrom, IsFromFnResult}
use Rattle.std.specs.Prelude.{map}
use denote.Param.Members.{Mut}

module _ {F B : Type 0} (g : Mut F (ℕ × Unit {0}) B) (f : F) (w : ℕ → B) (n : ℕ) (step : (i : ℕ) (y : B) (q : F) → i < n → Called g f (i, tt) y q → (q ≡ f) × (y ≡ w i)) where
  made_from : (ys : List B) (i m : ℕ) → i + m ≤ n → IsFromFnResultFrom g f ys i m → (k : ℕ) → i ≤ k → k < i + m → (d : B) → get_or ys k d ≡ w k
  made_from ys i zero fits made k low high d = absurd (omega arith)
  made_from ys i (suc m) fits made k low high d =
      let now = step i made.1 made.0 (omega arith) made.3 in
      ⊎_elim
      (λ h. made_from ys (i + 1) m (omega arith) (subst (λ q. IsFromFnResultFrom g q ys (i + 1) m) now.0 made.4) k (omega arith) (omega arith) d)
      (λ h. let e : k ≡ i = omega arith in ap (λ j. get_or ys j d) e ∙ made.2.1 d ∙ now.1 ∙ sym (ap w e))
      (cases_lt i k)

  -- the array is what w says of each place
  pub made_of : (ys : List B) → B → IsFromFnResult g f ys n → ys ≡ map w (range_with_len 0 n)
  made_of ys d made = fill_by_all w ys n d made.long (λ k h. made_from ys 0 n (omega arith) made.each k (omega arith) (omega arith) d)
