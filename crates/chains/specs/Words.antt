-- The definitions once more, in the words that a reader expects. A chain being the newest first, what stands behind a grant
-- came before it.
use Rattle.std.specs.Prelude.{◌≡◌, ℕ, ◌<◌, List, [], ◌∷◌, ◌++◌, map, ◌≢◌}
use Rattle.states.specs.declared.state.State.{State}
use Rattle.grants.specs.declared.Grant.{Grant}
use Rattle.conditions.specs.declared.truth.Truth.{Truth}
use Rattle.chains.specs.Lists.{In, Sorted}
use Rattle.chains.specs.Chains.{Person, JustifiesGrant}

-- both ways
abbrev pub Same : Type 0 → Type 0 → Type 0
Same A B = (A → B) × (B → A)

-- a chain of the hook h with the owner o, to the person p
pub record InWords (r : List Grant) (h o : ℕ) (c : List Grant) (p : ℕ) : Type 0 where
  -- the owner is a person
  pub owned : Person o
  -- every grant of it is recorded, and of the hook
  pub recorded : (g : Grant) → In g c → In g r
  pub one_hook : (g : Grant) → In g c → g.hook ≡ h
  -- the first is by the owner
  pub first : (after : List Grant) (g : Grant) → c ≡ after ++ (g ∷ []) → g.grantor ≡ o
  -- each next one is by the grantee before
  pub next : (after before : List Grant) (k g : Grant) → c ≡ after ++ (k ∷ g ∷ before) → k.grantor ≡ g.grantee
  -- the last is to the person
  pub last : (before : List Grant) (g : Grant) → c ≡ g ∷ before → g.grantee ≡ p
  -- only the owner has the empty chain
  pub empty : c ≡ [] → p ≡ o
  -- and nobody is reached twice, the owner counting as reached
  pub once : Sorted (λ (x y : ℕ). x ≢ y) (map (λ (g : Grant). g.grantee) c ++ (o ∷ []))

-- each grant of it is justified by the grants before it
abbrev pub EachJustified : (ℕ → State → Truth) → (Grant → State) → List Grant → Type 0
EachJustified means st c = (after before : List Grant) (g : Grant) → c ≡ after ++ (g ∷ before) → JustifiesGrant means st before g

-- older grants alike, then a lower number in c than in d
pub record FirstLower (c d : List Grant) : Type 0 where
  pub alike : List Grant
  pub newer_c : List Grant
  pub newer_d : List Grant
  pub here : Grant
  pub there : Grant
  pub c_is : c ≡ newer_c ++ (here ∷ alike)
  pub d_is : d ≡ newer_d ++ (there ∷ alike)
  pub lower : here.number < there.number
