-- What is asked of the language, and the links that the answers make.
use Rattle.std.specs.Prelude.{◌≡◌, ℕ, ◌<◌, ◌≤◌, Bool, true, false, ◌&&◌, List, length, Decides, ◌==◌, slice_index}
use Rattle.states.specs.declared.state.State.{State}
use Rattle.grants.specs.declared.Grant.{Grant}
use Rattle.conditions.specs.declared.truth.Truth.{Truth}
use Rattle.conditions.specs.Truths.{is_true}
use Rattle.chains.specs.declared.chain.Which.{Which}
use Rattle.chains.specs.declared.chain.Which.TheVariants.{Onward}
use Rattle.chains.specs.Chains.{Person}
use Rattle.chains.specs.Search.{condition_of}
use Rattle.places.specs.Sets.{member}
use Rattle.paths.specs.Chains.{link, Chain}
use Rattle.paths.specs.declared.links.Links.{Links}
use Rattle.paths.specs.declared.plan.Plan.{Plan}
use Rattle.search.specs.Records.{at}

module _ (means : ℕ → State → Truth) where
  -- the grant is of the hook, and that condition of it is true of the state
  abbrev pub passes : ℕ → Which → State → Grant → Bool
  passes h which s g = g.hook == h && is_true (means (condition_of which g) s)

  -- the set has just those places of the record
  abbrev pub Passing : List Grant → ℕ → Which → State → ℕ → Type 0
  Passing r h which s set = (i : ℕ) → i < length r → member set i ≡ passes h which s (at r i)

  -- up to place m, each place of `among` has its column: the places of its hook whose grant condition is true of its state
  abbrev pub ColumnsTo : List Grant → ℕ → ℕ → List ℕ → Type 0
  ColumnsTo r among m columns =
      (j : ℕ) → j < m → member among j ≡ true → Passing r (at r j).hook Onward (at r j).state (slice_index columns j)

-- links of the record: who gave, who was given, and the columns as rows
pub record Linked (r : List Grant) (columns : List ℕ) (l : Links) : Type 0 where
  pub count : l.count ≡ length r
  pub giver : (i : ℕ) → i < length r → (link l i).giver ≡ (at r i).grantor
  pub taker : (i : ℕ) → i < length r → (link l i).taker ≡ (at r i).grantee
  pub row : (i j : ℕ) → i < length r → j < length r → member (link l i).row j ≡ member (slice_index columns j) i

-- every place of a column is of its hook
abbrev pub OneHook : List Grant → List ℕ → Type 0
OneHook r columns = (i k : ℕ) → i < length r → k < length r → member (slice_index columns i) k ≡ true → (at r k).hook ≡ (at r i).hook

-- a plan of such links, with rows for the places of `among`
abbrev pub Planned : (ℕ → State → Truth) → List Grant → ℕ → Plan → Type 0
Planned means r among plan = (columns : List ℕ) × ColumnsTo means r among (length r) columns × Linked r columns plan.links

-- a chain of at most seven grants leads from the owner, who is a person, to the target
abbrev pub Reached : Links → ℕ → ℕ → ℕ → Type 0
Reached l o t a = (w : List ℕ) × Person o × (length w ≤ 7) × Chain l o t a w

-- the same for the grant at place i, over the places of its column, from the owner of its hook to its grantor
abbrev pub ReachedAt : Links → List Grant → List ℕ → List ℕ → ℕ → Type 0
ReachedAt l r columns owners i = Reached l (slice_index owners (at r i).hook) (at r i).grantor (slice_index columns i)

-- up to m the set has just the places of which R is true, and none behind
abbrev pub DecidedTo : (ℕ → Type 0) → ℕ → ℕ → Type 0
DecidedTo R set m = ((k : ℕ) → k < m → Decides (member set k) (R k)) × ((k : ℕ) → m ≤ k → member set k ≡ false)
