-- What the sweep goes by: sets of places, one bit for each.
use Rattle.std.specs.Prelude.{◌≡◌, ℕ, suc, ◌<◌, Bool, cond, not, ◌&&◌, ◌||◌, List, [], ◌∷◌, length, nat_lt}
use Rattle.std.specs.List.{count_by, range_with_len}
use Rattle.states.specs.declared.state.State.{State}
use Rattle.grants.specs.declared.Grant.{Grant}
use Rattle.conditions.specs.declared.truth.Truth.{Truth}
use Rattle.register.specs.Held.{held}
use Rattle.search.specs.Records.{at}
use Rattle.paths.specs.Sets.{member}
use Rattle.states.specs.States.{kept}
use Rattle.plain.specs.Record.{World, is_resting, with_grants, swept, whole}
use Rattle.ledger.specs.declared.held.Ledger.{Ledger}
use Rattle.ledger.specs.Ledgers.{stands_in}

-- the set has just the places of the grants that stand
abbrev pub Standing : ℕ → (ℕ → State → Truth) → Ledger → ℕ → Type 0
Standing size means l set = (i : ℕ) → i < length (held l.grants) → member set i ≡ stands_in size means l (at (held l.grants) i)

-- the grant at place i stays: it is of mode R, or its place is in the set
abbrev pub stays_at : ℕ → ℕ → Grant → Bool
stays_at set i g = is_resting g.mode || member set i

-- of grants that stand from place i on, those that stay
abbrev pub stay_from : ℕ → ℕ → List Grant → List Grant
stay_from set i [] = []
stay_from set i (g ∷ gs) = cond (stays_at set i g) (g ∷ stay_from set (suc i) gs) (stay_from set (suc i) gs)

-- the place that place i had before the row at `gone` was taken out
abbrev pub place_before : ℕ → ℕ → ℕ
place_before gone i = cond (nat_lt i gone) i (suc i)

-- place i, of the rows without the one at `gone`, is an orphan's: in the first set, and not in the second
abbrev pub is_orphan : ℕ → ℕ → ℕ → ℕ → Bool
is_orphan before gone after i = member before (place_before gone i) && not (member after i)

-- how many of the n places from i on are orphans'
abbrev pub orphans_from : (ℕ → Bool) → ℕ → ℕ → ℕ
orphans_from t i n = count_by t (range_with_len i n)

-- the cabinet after a sweep
abbrev pub settled : ℕ → (ℕ → State → Truth) → World → World
settled size means w = with_grants w w.last (swept size means kept whole w w.grants)
