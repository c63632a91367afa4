-- What a draw is told: the numbers of a chain's grants.
use Rattle.std.specs.Prelude.{◌≡◌, ℕ, ◌-◌, cond, List, ◌++◌, map, reverse, length, replicate, Some, None, Option, nat_lt, slice_index}
use Rattle.std.specs.List.{range_with_len}
use Rattle.states.specs.declared.state.State.{State}
use Rattle.grants.specs.declared.Grant.{Grant}
use Rattle.conditions.specs.declared.truth.Truth.{Truth}
use Rattle.paths.specs.declared.route.Route.{Route}
use Rattle.chains.specs.Chains.{Serves}
use Rattle.chains.specs.Order.{Least}
use Rattle.chains.specs.Laws.{recorded}
use Rattle.search.specs.declared.named.Named.{Named}
use Rattle.search.specs.Records.{at}

-- the numbers of a chain, the oldest first, and zeros behind up to eight
abbrev pub named_of : List Grant → Named
named_of c = record { numbers = reverse (map (λ (g : Grant). g.number) c) ++ replicate (8 - length c) 0; length = length c }

abbrev pub named : Option (List Grant) → Option Named
named None = None
named (Some c) = Some (named_of c)

-- no chain serves, or the least that does is named
abbrev pub Answered : (ℕ → State → Truth) → List Grant → ℕ → ℕ → ℕ → State → Option Named → Type 0
Answered means r h o p s None = (c : List Grant) → Serves means recorded r h o p s c → ⊥
Answered means r h o p s (Some n) = (c : List Grant) × Least means recorded r h o p s c × (n ≡ named_of c)

-- the number at place k of a route, and of a whole route
abbrev pub entry : List Grant → Route → ℕ → ℕ
entry r route k = cond (nat_lt k route.length) (at r (slice_index route.places k)).number 0

abbrev pub entries : List Grant → Route → Named
entries r route = record { numbers = map (entry r route) (range_with_len 0 8); length = route.length }
