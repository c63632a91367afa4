-- Ways from person to person, step by step, as a search goes them.
use Rattle.std.specs.Prelude.{◌≡◌, ℕ, ◌<◌, ◌≤◌, true, List, [], ◌∷◌, length, Some, None, Option, bit_and}
use Rattle.places.specs.Sets.{member}
use Rattle.paths.specs.Chains.{NotAfter, route_of, link}
use Rattle.paths.specs.Plans.{step}
use Rattle.paths.specs.declared.plan.Plan.{Plan}
use Rattle.paths.specs.declared.route.Route.{Route}

-- the places lead from p to the target, and each is in the set that those before it leave
abbrev pub Steps : Plan → ℕ → ℕ → ℕ → List ℕ → Type 0
Steps n t a p [] = p ≡ t
Steps n t a p (i ∷ is) = (i < n.links.count) × ((link n.links i).giver ≡ p) × (member a i ≡ true) × Steps n t (bit_and a (step n.steps i).keep) (link n.links i).taker is

-- w is the first of the ways of its length
abbrev pub First : Plan → ℕ → ℕ → ℕ → List ℕ → Type 0
First n t a p w = Steps n t a p w × ((q : List ℕ) → length q ≡ length w → Steps n t a p q → NotAfter w q)

-- there is no way of k steps
abbrev pub Never : Plan → ℕ → ℕ → ℕ → ℕ → Type 0
Never n t a p k = (q : List ℕ) → length q ≡ k → Steps n t a p q → ⊥

-- no way of at most `most` steps, or the first of the shortest
abbrev pub Shortest : Plan → ℕ → ℕ → ℕ → ℕ → Option Route → Type 0
Shortest n t a p most None = (q : List ℕ) → length q ≤ most → Steps n t a p q → ⊥
Shortest n t a p most (Some route) =
    (w : List ℕ) × (route ≡ route_of w) × (length w ≤ most) × First n t a p w × ((q : List ℕ) → length q < length w → Steps n t a p q → ⊥)
