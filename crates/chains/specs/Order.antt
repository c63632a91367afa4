-- The order of chains, and the least chain that serves.
use Rattle.std.specs.Prelude.{◌≡◌, ℕ, ◌<◌, ◌⊎◌, List, [], ◌∷◌, length}
use Rattle.states.specs.declared.state.State.{State}
use Rattle.grants.specs.declared.Grant.{Grant}
use Rattle.conditions.specs.declared.truth.Truth.{Truth}
use Rattle.chains.specs.Lists.{Sorted}
use Rattle.chains.specs.Chains.{Serves}

-- of two chains of one length, c has the lower number at the first difference, counted from the owner's end
abbrev pub Lower : List Grant → List Grant → Type 0
Lower [] [] = ⊥
Lower [] (k ∷ d) = ⊥
Lower (g ∷ c) [] = ⊥
Lower (g ∷ c) (k ∷ d) = Lower c d ⊎ ((c ≡ d) × (g.number < k.number))

-- c comes before d: it has fewer grants, or as many and the lower number at the first difference
abbrev pub Before : List Grant → List Grant → Type 0
Before c d = (length c < length d) ⊎ ((length c ≡ length d) × Lower c d)

-- the numbers of a record rise
abbrev pub Rising : List Grant → Type 0
Rising r = Sorted (λ (a b : Grant). a.number < b.number) r

-- c serves a draw, and comes before every other chain that does
abbrev pub Least : (ℕ → State → Truth) → (Grant → State) → List Grant → ℕ → ℕ → ℕ → State → List Grant → Type 0
Least means st r h o p s c = Serves means st r h o p s c × ((d : List Grant) → Serves means st r h o p s d → (c ≡ d) ⊎ Before c d)
