-- What a plan's steps hold, against the links that it was made from.
use Rattle.std.specs.Prelude.{◌≡◌, ℕ, ◌<◌, not, ◌&&◌, List, ◌==◌, nat_lt, slice_index_or}
use Rattle.places.specs.Sets.{member}
use Rattle.paths.specs.Chains.{link}
use Rattle.paths.specs.declared.links.Links.{Links}
use Rattle.paths.specs.declared.plan.Step.{Step}

-- the step at a place
abbrev pub step : List Step → ℕ → Step
step steps i = slice_index_or steps i (record { keep = 0; onward = 0 })

-- s holds just the places that are given by p
abbrev pub Given : Links → ℕ → ℕ → Type 0
Given l p s = (j : ℕ) → member s j ≡ (nat_lt j l.count && (link l j).giver == p)

-- s holds just the places that lead to p
abbrev pub Leading : Links → ℕ → ℕ → Type 0
Leading l p s = (j : ℕ) → member s j ≡ (nat_lt j l.count && (link l j).taker == p)

-- up to place m: what a place admits, less the places that lead to its taker once more
abbrev pub NarrowedTo : Links → ℕ → List Step → Type 0
NarrowedTo l m steps =
    (i j : ℕ) → (i < m) × (j < l.count) → member (step steps i).keep j ≡ (member (link l i).row j && not ((link l j).taker == (link l i).taker))

abbrev pub Narrowed : Links → List Step → Type 0
Narrowed l steps = NarrowedTo l l.count steps

-- up to place m: the places that are given by its taker
abbrev pub FollowedTo : Links → ℕ → List Step → Type 0
FollowedTo l m steps = (i : ℕ) → i < m → Given l (link l i).taker (step steps i).onward

abbrev pub Followed : Links → List Step → Type 0
Followed l steps = FollowedTo l l.count steps
