-- What leaves in a sweep carries no chain.
use Rattle.std.proofs.Common.{◌≡◌, ℕ, suc, Bool, cond, not, ◌&&◌, List, [], ◌∷◌, refl, ap}
use Rattle.std.proofs.lemmas.Bool.{or_right}
use Rattle.std.proofs.lemmas.Bool.Decides.{same_from_decides}
use Rattle.states.specs.declared.state.State.{State}
use Rattle.grants.specs.declared.Grant.{Grant}
use Rattle.conditions.specs.declared.truth.Truth.{Truth}
use Rattle.chains.specs.Laws.{Rid}
use Rattle.chains.proofs.Lists.{keep_in, in_keep}
use Rattle.chains.proofs.Sound.{decides_stands}
use Rattle.numbered.specs.Rows.{without}
use Rattle.chains.proofs.Standing.{same_standing}
use Rattle.plain.specs.Record.{World, is_resting, stands_on, owner, seen, swept, left, count, number_of}
use Rattle.plain.specs.Laws.{orphans}
use Rattle.plain.proofs.Runs.{stays}

module _ (size : ℕ) (means : ℕ → State → Truth) (put see : ℕ → State → State) (w : World) (r : List Grant) where
  pub swept_rid : Rid means (seen size means put see w) (owner w) r (swept size means put see w r)
  swept_rid =
      record {
        part = λ g i. (keep_in (stays size means put see w r) r g i).0;
        keeps = λ g i s. in_keep (stays size means put see w r) r g i (or_right (is_resting g.mode) (stands_on size means put see w r g) ((decides_stands means (seen size means put see w) r (owner w) g).1 s));
      }

count_same : {X : Type 0} (t u : X → Bool) → ((x : X) → t x ≡ u x) → (xs : List X) → count t xs ≡ count u xs
count_same t u e [] = refl
count_same t u e (x ∷ xs) = λ i. cond (e x i) (suc (count_same t u e xs i)) (count_same t u e xs i)

module _ (size : ℕ) (means : ℕ → State → Truth) (put see : ℕ → State → State) (w : World) where
  pub same_stands : (r : List Grant) (g : Grant) → stands_on size means put see w (swept size means put see w r) g ≡ stands_on size means put see w r g
  same_stands r g =
      let d = decides_stands means (seen size means put see w) r (owner w) g in
      let same = same_standing means (seen size means put see w) (owner w) r (swept size means put see w r) (swept_rid size means put see w r) g in
      same_from_decides (stands_on size means put see w (swept size means put see w r) g) (stands_on size means put see w r g)
      (decides_stands means (seen size means put see w) (swept size means put see w r) (owner w) g)
      (λ e. same.0 (d.0 e), λ x. d.1 (same.1 x))

  pub orphans_once : (n : ℕ) → orphans size means put see w n (left size means put see w n) ≡ orphans size means put see w n (without number_of n w.grants)
  orphans_once n =
      let rest = without number_of n w.grants in
      count_same (λ g. stands_on size means put see w w.grants g && not (stands_on size means put see w (left size means put see w n) g)) (λ g. stands_on size means put see w w.grants g && not (stands_on size means put see w rest g))
      (λ g. ap (λ b. stands_on size means put see w w.grants g && not b) (same_stands rest g)) rest
