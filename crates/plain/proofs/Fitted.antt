-- The owners of a fitting, one after another.
use Rattle.std.proofs.Common.{◌≡◌, ℕ, suc, ◌+◌, ◌<◌, ◌≤◌, true, false, ltb, List, ◌∷◌, length, get_or, drop, Ok, Err, Result, sym, ap, ◌∙◌, add-one}
use Rattle.std.proofs.lemmas.List.{at_drop_more, at_drop_all}
use Rattle.faults.specs.declared.Fault.{Fault}
use Rattle.faults.specs.declared.Refusal.TheVariants.{FittingIllFormed}
use Rattle.faults.specs.Faults.{fault}
use Rattle.plain.specs.Record.{check, passed, owners_from}

-- what the owners from i on come to
abbrev pub owning : ℕ → List ℕ → Result (Unit {0}) Fault
owning i xs = passed (owners_from i (drop i xs))

module _ (xs : List ℕ) (i d : ℕ) (h : i < length xs) where
  step : owning i xs ≡ passed (check (ltb 200 (get_or xs i d)) FittingIllFormed i ∷ owners_from (suc i) (drop (i + 1) xs))
  step = at_drop_more (λ l. passed (owners_from i l)) xs i d h

  pub wrong_here : ltb 200 (get_or xs i d) ≡ true → owning i xs ≡ Err (fault FittingIllFormed i)
  wrong_here t = step ∙ ap (λ b. passed (check b FittingIllFormed i ∷ owners_from (suc i) (drop (i + 1) xs))) t

  pub wrong_later : ltb 200 (get_or xs i d) ≡ false → owning i xs ≡ owning (i + 1) xs
  wrong_later t =
      step
      ∙ ap (λ b. passed (check b FittingIllFormed i ∷ owners_from (suc i) (drop (i + 1) xs))) t
      ∙ sym (ap (λ k. passed (owners_from k (drop (i + 1) xs))) (add-one i))

pub none_wrong : (xs : List ℕ) (i : ℕ) → length xs ≤ i → owning i xs ≡ Ok tt
none_wrong xs i h = at_drop_all (λ l. passed (owners_from i l)) xs i h
