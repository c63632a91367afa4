-- The laws of chains, over every meaning of the conditions, and every state by which a grant is judged.
use Rattle.std.specs.Prelude.{◌≡◌, ℕ, ◌≤◌, List, length, Some, None, Decides, ◌≢◌}
use Rattle.std.specs.List.{AllByRecursion}
use Rattle.states.specs.declared.state.State.{State}
use Rattle.states.specs.States.{InRange, kept}
use Rattle.grants.specs.declared.Grant.{Grant}
use Rattle.conditions.specs.declared.truth.Truth.{Truth}
use Rattle.conditions.specs.Laws.{Lawful}
use Rattle.chains.specs.Lists.{In}
use Rattle.chains.specs.Chains.{Chain, Valid, Stands, Serves}
use Rattle.chains.specs.Order.{Lower, Rising, Least}
use Rattle.chains.specs.Search.{stands, least_chain}
use Rattle.chains.specs.Words.{Same, InWords, EachJustified, FirstLower}

-- the state as it is recorded
abbrev pub recorded : Grant → State
recorded g = g.state

-- the record holds every grant of the chain
abbrev pub Holds : List Grant → List Grant → Type 0
Holds r c = (g : Grant) → In g c → In g r

-- q is r without some grants that do not stand on r
pub record Rid (means : ℕ → State → Truth) (st : Grant → State) (own : ℕ → ℕ) (r q : List Grant) : Type 0 where
  pub part : (g : Grant) → In g q → In g r
  pub keeps : (g : Grant) → In g r → Stands means st r own g → In g q

-- what a draw may rely on
pub record DrawLaws : Type 0 where
  -- a chain is what the words say
  pub chain_words : (r : List Grant) (h o : ℕ) (c : List Grant) (p : ℕ) → Same (Chain r h o c p) (InWords r h o c p)
  -- a chain is valid if each of its grants is justified by the grants before it
  pub valid_words : (means : ℕ → State → Truth) (st : Grant → State) (c : List Grant) → Same (Valid means st c) (EachJustified means st c)
  -- of two chains of one length, the lower one has the lower number at the first difference from the owner's end
  pub lower_words : (c d : List Grant) → length c ≡ length d → Same (Lower c d) (FirstLower c d)
  -- a draw names no chain exactly when none serves
  pub none_serves : (means : ℕ → State → Truth) (st : Grant → State) (r : List Grant) (h o p : ℕ) (s : State)
      → Same (least_chain means st r h o p s ≡ None) ((c : List Grant) → Serves means st r h o p s c → ⊥)
  -- and otherwise just the least that serves
  pub least_serves : (means : ℕ → State → Truth) (st : Grant → State) (r : List Grant) → Rising r → (h o p : ℕ) (s : State) (c : List Grant)
      → Same (least_chain means st r h o p s ≡ Some c) (Least means st r h o p s c)
  -- a chain that is valid by the kept states is valid by the whole states, in every lawful language
  pub kept_then_whole : (count : ℕ) (means : ℕ → State → Truth) → Lawful count means → (set : ℕ) (c : List Grant)
      → AllByRecursion (λ (g : Grant). InRange g.state) c → Valid means (λ g. kept set g.state) c → Valid means recorded c

-- what a grant may rely on
pub record GrantLaws : Type 0 where
  -- the test of standing decides it
  pub decided : (means : ℕ → State → Truth) (st : Grant → State) (r : List Grant) (own : ℕ → ℕ) (g : Grant) → Decides (stands means st r own g) (Stands means st r own g)
  -- every grant of a valid chain stands
  pub in_chain : (means : ℕ → State → Truth) (st : Grant → State) (own : ℕ → ℕ) (r : List Grant) (h p : ℕ) (c : List Grant)
      → Chain r h (own h) c p → Valid means st c → length c ≤ 8 → (g : Grant) → In g c → Stands means st r own g
  -- taking out grants that do not stand changes no standing
  pub same_standing : (means : ℕ → State → Truth) (st : Grant → State) (own : ℕ → ℕ) (r q : List Grant) → Rid means st own r q
      → (g : Grant) → Same (Stands means st r own g) (Stands means st q own g)
  -- and makes or breaks no chain that serves
  pub same_serving : (means : ℕ → State → Truth) (st : Grant → State) (own : ℕ → ℕ) (r q : List Grant) → Rid means st own r q
      → (h p : ℕ) (s : State) (c : List Grant) → Same (Serves means st r h (own h) p s c) (Serves means st q h (own h) p s c)
  -- no chain to a person has a grant by that person
  pub not_own : (r : List Grant) (h o : ℕ) (c : List Grant) (p : ℕ) → Chain r h o c p → AllByRecursion (λ (g : Grant). g.grantor ≢ p) c
