-- Chains of grants, and what they justify. A chain is a list of grants, the newest first, so that the grants before one are
-- those behind it in the list.
use Rattle.std.specs.Prelude.{◌≡◌, ℕ, ◌≤◌, List, [], ◌∷◌, length, ◌≢◌}
use Rattle.std.specs.List.{AllByRecursion}
use Rattle.states.specs.declared.state.State.{State}
use Rattle.grants.specs.declared.Grant.{Grant}
use Rattle.conditions.specs.declared.truth.Truth.{Truth}
use Rattle.conditions.specs.declared.truth.Truth.TheVariants.{True}
use Rattle.chains.specs.Lists.{In}

-- a person is a number from 1 to 200
abbrev pub Person : ℕ → Type 0
Person p = (1 ≤ p) × (p ≤ 200)

-- c is a chain of the hook h, whose owner is o, to the person p, over the record r: the empty chain leads to the owner; a
-- longer one ends with a recorded grant of the hook to p, whom neither the owner nor an earlier grant reached, and without
-- it is a chain to that grant's grantor
abbrev pub Chain : List Grant → ℕ → ℕ → List Grant → ℕ → Type 0
Chain r h o [] p = (p ≡ o) × Person o
Chain r h o (g ∷ c) p = In g r × (g.hook ≡ h) × (g.grantee ≡ p) × ((p ≢ o) × AllByRecursion (λ (b : Grant). b.grantee ≢ p) c) × Chain r h o c g.grantor

module _ (means : ℕ → State → Truth) where
  -- each grant condition is true of the state
  abbrev pub AllOnward : List Grant → State → Type 0
  AllOnward c s = AllByRecursion (λ (k : Grant). means k.onward s ≡ True) c

  -- each execute condition is true of the state
  abbrev pub AllExecute : List Grant → State → Type 0
  AllExecute c s = AllByRecursion (λ (k : Grant). means k.execute s ≡ True) c

  -- st tells by which state a grant is judged
  module _ (st : Grant → State) where
    -- each grant is justified by the grants before it
    abbrev pub Valid : List Grant → Type 0
    Valid [] = Unit {0}
    Valid (g ∷ before) = Valid before × AllOnward before (st g)

    -- a chain to its grantor justifies a grant if it is valid and each of its grant conditions is true of the grant's state
    abbrev pub JustifiesGrant : List Grant → Grant → Type 0
    JustifiesGrant c g = Valid c × AllOnward c (st g)

    -- a chain to the person justifies a draw if it is valid and each of its execute conditions is true of the draw's state
    abbrev pub JustifiesDraw : List Grant → State → Type 0
    JustifiesDraw c s = Valid c × AllExecute c s

    -- c is a chain of at most seven grants that justifies the grant g
    abbrev pub Supports : List Grant → (ℕ → ℕ) → Grant → List Grant → Type 0
    Supports r owner g c = Chain r g.hook (owner g.hook) c g.grantor × (length c ≤ 7) × JustifiesGrant c g

    -- a grant stands if some chain of at most seven justifies it; otherwise it rests
    abbrev pub Stands : List Grant → (ℕ → ℕ) → Grant → Type 0
    Stands r owner g = (c : List Grant) × Supports r owner g c

    abbrev pub Rests : List Grant → (ℕ → ℕ) → Grant → Type 0
    Rests r owner g = Stands r owner g → ⊥

    -- c is a chain of at most eight grants that justifies a draw from the hook h by p
    abbrev pub Serves : List Grant → ℕ → ℕ → ℕ → State → List Grant → Type 0
    Serves r h o p s c = Chain r h o c p × (length c ≤ 8) × JustifiesDraw c s
