-- What a search may rely on: its tables, and its memory of searches that failed.
use Rattle.std.specs.Prelude.{◌≡◌, ℕ, suc, ◌+◌, ◌<◌, true, not, ◌&&◌, List, [], ◌∷◌, length, ◌==◌, bit_and, slice_index, slice_index_or}
use Rattle.places.specs.Sets.{member}
use Rattle.paths.specs.Chains.{link}
use Rattle.paths.specs.Plans.{step}
use Rattle.paths.specs.Steps.{Steps, Never}
use Rattle.paths.specs.declared.plan.Plan.{Plan}
use Rattle.paths.specs.declared.plan.Step.{Step}
use Rattle.paths.specs.declared.memory.Search.{Search}
use Rattle.paths.specs.declared.memory.Failures.{Failures}

-- the failure that is noted at place j
abbrev pub failure : Failures → ℕ → Search
failure f j = slice_index_or f.noted j (record { person = 0; allowed = 0 })

-- none of the noted searches finds a way of k steps
abbrev pub Failed : Plan → ℕ → ℕ → Failures → Type 0
Failed n t k f = (j : ℕ) → j < 32 → Never n t (failure f j).allowed (failure f j).person k

-- the first level is of as many steps as there are levels
abbrev pub Knows : Plan → ℕ → List Failures → Type 0
Knows n t [] = Unit {0}
Knows n t (f ∷ fs) = Failed n t (suc (length fs)) f × Knows n t fs

-- every place of the set is one of the base
abbrev pub Inside : ℕ → ℕ → Type 0
Inside base s = (j : ℕ) → member s j ≡ true → member base j ≡ true

-- the tables of a net over a plan, to a target, tell the truth
pub record Ready (n : Plan) (layers : List ℕ) (t last base : ℕ) : Type 0 where
  -- `last` has every place that leads to the target
  pub ends : (j : ℕ) → j < n.links.count → (link n.links j).taker ≡ t → member last j ≡ true
  -- `near` has, by the number of steps, every place of the base after which there is a way of so many over such places
  pub near : (a k i : ℕ) (is : List ℕ) → k < 8 → length is ≡ k → i < n.links.count → member base i ≡ true → Inside base a → Steps n t a (link n.links i).taker is → member (slice_index layers k) i ≡ true

-- the layers up to m: the first is `last`, and each next one has the places before the one below, all of them in `base`
pub record Layers (steps : List Step) (last base m : ℕ) (near : List ℕ) : Type 0 where
  pub long : length near ≡ 8
  pub first : slice_index_or near 0 0 ≡ bit_and last base
  pub more : (k i : ℕ) → k < m → i < 96 → member (slice_index near (k + 1)) i ≡ (not (bit_and (step steps i).onward (slice_index near k) == 0) && member base i)
