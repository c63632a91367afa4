-- Chains over links. A chain is the list of its places, the owner's grant first.
use Rattle.std.specs.Prelude.{◌≡◌, ℕ, ◌-◌, ◌<◌, ◌≤◌, true, ◌⊎◌, List, [], ◌∷◌, ◌++◌, map, length, replicate, Some, None, Option, ◌≢◌, slice_index_or}
use Rattle.paths.specs.Sets.{member}
use Rattle.paths.specs.declared.links.Link.{Link}
use Rattle.paths.specs.declared.links.Links.{Links}
use Rattle.paths.specs.declared.route.Route.{Route}

-- the link at a place
abbrev pub link : Links → ℕ → Link
link l i = slice_index_or l.links i (record { giver = 0; taker = 0; row = 0 })

-- the first grant is by p, each next one by the taker before, and the last is to q
abbrev pub Joins : Links → ℕ → List ℕ → ℕ → Type 0
Joins l p [] q = p ≡ q
Joins l p (i ∷ is) q = (i < l.count) × ((link l i).giver ≡ p) × Joins l (link l i).taker is q

-- every place is in the set
abbrev pub AllIn : ℕ → List ℕ → Type 0
AllIn s [] = Unit {0}
AllIn s (i ∷ is) = (member s i ≡ true) × AllIn s is

-- each grant is admitted by every one before it
abbrev pub Admitted : Links → List ℕ → Type 0
Admitted l [] = Unit {0}
Admitted l (i ∷ is) = AllIn (link l i).row is × Admitted l is

-- x is none of them
abbrev pub NoneOf : ℕ → List ℕ → Type 0
NoneOf x [] = Unit {0}
NoneOf x (y ∷ ys) = (y ≢ x) × NoneOf x ys

-- no two are equal
abbrev pub Apart : List ℕ → Type 0
Apart [] = Unit {0}
Apart (x ∷ xs) = NoneOf x xs × Apart xs

-- the persons that the grants are to
abbrev pub reached : Links → List ℕ → List ℕ
reached l w = map (λ i. (link l i).taker) w

-- a chain from the owner to the target over the allowed places
pub record Chain (l : Links) (owner target allowed : ℕ) (w : List ℕ) : Type 0 where
  -- it leads from the owner to the target
  pub joins : Joins l owner w target
  -- over allowed places only
  pub allows : AllIn allowed w
  -- each later grant is admitted by every earlier one
  pub admitted : Admitted l w
  -- and nobody is reached twice, the owner counting as reached
  pub apart : Apart (owner ∷ reached l w)

-- w is q, or has the lower place where they first differ
abbrev pub NotAfter : List ℕ → List ℕ → Type 0
NotAfter [] q = Unit {0}
NotAfter (i ∷ is) [] = ⊥
NotAfter (i ∷ is) (j ∷ js) = (i < j) ⊎ ((i ≡ j) × NotAfter is js)

-- w has fewer grants than q, or as many and does not come after it
abbrev pub NotWorse : List ℕ → List ℕ → Type 0
NotWorse w q = (length w < length q) ⊎ ((length w ≡ length q) × NotAfter w q)

-- a chain as a route: its places, and zeros behind up to eight
abbrev pub route_of : List ℕ → Route
route_of w = record { places = w ++ replicate (8 - length w) 0; length = length w }

-- no chain of at most `most` grants, or the best of them
abbrev pub Best : Links → ℕ → ℕ → ℕ → ℕ → Option Route → Type 0
Best l o t a most None = (q : List ℕ) → length q ≤ most → Chain l o t a q → ⊥
Best l o t a most (Some route) =
    (w : List ℕ) × (route ≡ route_of w) × (length w ≤ most) × Chain l o t a w
    × ((q : List ℕ) → length q ≤ most → Chain l o t a q → NotWorse w q)
