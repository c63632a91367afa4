-- The grants that a sweep leaves.
use Rattle.std.proofs.Common.{◌≡◌, ℕ, suc, ◌+◌, ◌<◌, Bool, true, false, cond, ◌||◌, ltb, List, [], ◌∷◌, length, get_or, refl, ◌∙◌, subst, suc-le-suc, arith}
use Rattle.std.proofs.lemmas.Bool.{and_parts, and_from}
use Rattle.numbered.specs.Rows.{all_below, AllBelow}
use Rattle.grants.specs.declared.Grant.{Grant}
use Rattle.grants.specs.Blank.{blank}
use Rattle.paths.specs.Sets.{member}
use Rattle.states.specs.declared.state.State.{State}
use Rattle.conditions.specs.declared.truth.Truth.{Truth}
use Rattle.register.specs.Held.{held, numbers, chosen_from}
use Rattle.ledger.specs.declared.held.Ledger.{Ledger}
use Rattle.ledger.specs.Ledgers.{stands_in}
use Rattle.chains.specs.Lists.{keep_if}
use Rattle.plain.specs.Record.{is_resting}
use Rattle.ledger.specs.Sweeps.{Standing, stays_at, stay_from}

-- the chosen places are those that stay
pub chosen_stay : (places set i : ℕ) (gs : List Grant) → ((k j : ℕ) → j ≡ i + k → k < length gs → member places j ≡ stays_at set j (get_or gs k blank)) → chosen_from places i gs ≡ stay_from set i gs
chosen_stay places set i [] h = refl
chosen_stay places set i (g ∷ gs) h =
    let rest = chosen_stay places set (suc i) gs (λ k j e lt. h (suc k) j (omega arith) (suc-le-suc lt)) in
    λ p. cond (h 0 i (omega arith) (omega arith) p) (g ∷ rest p) (rest p)

-- where the set has just the grants that pass a test, those that rest or pass stay
pub stay_keep : (test : Grant → Bool) (set i : ℕ) (gs : List Grant) → ((k j : ℕ) → j ≡ i + k → k < length gs → member set j ≡ test (get_or gs k blank)) → stay_from set i gs ≡ keep_if (λ g. is_resting g.mode || test g) gs
stay_keep test set i [] h = refl
stay_keep test set i (g ∷ gs) h =
    let rest = stay_keep test set (suc i) gs (λ k j e lt. h (suc k) j (omega arith) (suc-le-suc lt)) in
    λ p. cond (is_resting g.mode || h 0 i (omega arith) (omega arith) p) (g ∷ rest p) (rest p)

-- numbers below a limit stay below it
pub below_stay : (n set i : ℕ) (gs : List Grant) → AllBelow numbers n gs → AllBelow numbers n (stay_from set i gs)
below_stay n set i [] b = refl
below_stay n set i (g ∷ gs) b =
    let both = and_parts (ltb g.number n) (all_below numbers n gs) b in
    let rest = below_stay n set (suc i) gs both.1 in
    elim (stays_at set i g) as (λ t. AllBelow numbers n (cond t (g ∷ stay_from set (suc i) gs) (stay_from set (suc i) gs))) [
      | true ↦ and_from (ltb g.number n) (all_below numbers n (stay_from set (suc i) gs)) both.0 rest
      | false ↦ rest
    ]

-- the rows after a sweep, as the code makes them
pub swept_rows : (rows gs after : List Grant) (places set : ℕ) → rows ≡ gs → ((i : ℕ) → i < length rows → member places i ≡ stays_at set i (get_or rows i blank)) → after ≡ chosen_from places 0 gs → after ≡ stay_from set 0 gs
swept_rows rows gs after places set is h e =
    let at = subst (λ (rs : List Grant). (i : ℕ) → i < length rs → member places i ≡ stays_at set i (get_or rs i blank)) is h in
    e ∙ chosen_stay places set 0 gs (λ k j q lt. let same : k ≡ j = omega arith in subst (λ i. member places i ≡ stays_at set i (get_or gs k blank)) same (at k lt))

-- where the set has just the places of the grants that stand, those stay that a sweep leaves
pub stay_standing : (size : ℕ) (means : ℕ → State → Truth) (l : Ledger) (set : ℕ) → Standing size means l set
    → stay_from set 0 (held l.grants) ≡ keep_if (λ g. is_resting g.mode || stands_in size means l g) (held l.grants)
stay_standing size means l set h =
    let gs = held l.grants in
    stay_keep (stands_in size means l) set 0 gs (λ k j q lt. let same : k ≡ j = omega arith in subst (λ i. member set i ≡ stands_in size means l (get_or gs k blank)) same (h k lt))
