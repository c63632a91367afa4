-- What a register holds: the grants on record, in the order of their numbers.
use Rattle.std.specs.Prelude.{◌≡◌, ℕ, suc, ◌<◌, cond, List, [], ◌∷◌, ◌++◌, length, take, Ok, Result}
use Rattle.numbered.specs.declared.NotAdded.{NotAdded}
use Rattle.numbered.specs.Rows.{AllBelow}
use Rattle.grants.specs.declared.Grant.{Grant}
use Rattle.places.specs.Sets.{member}
use Rattle.register.specs.declared.table.Register.{Register}

abbrev pub held : Register → List Grant
held r = take r.count r.rows

-- the number of a grant, by which it is found
abbrev pub numbers : Grant → ℕ
numbers g = g.number

-- of rows that stand from place i on, those whose place is in the set, in their order
abbrev pub chosen_from : ℕ → ℕ → List Grant → List Grant
chosen_from places i [] = []
chosen_from places i (g ∷ gs) = cond (member places i) (g ∷ chosen_from places (suc i) gs) (chosen_from places (suc i) gs)

abbrev pub chosen : ℕ → List Grant → List Grant
chosen places gs = chosen_from places 0 gs

-- a grant whose number is above all others is added at the end, where fewer than 96 are held
abbrev pub Appends : Grant → List Grant → Result (Unit {0}) NotAdded → List Grant → Type 0
Appends g before r after = AllBelow numbers g.number before → length before < 96 → (r ≡ Ok tt) × (after ≡ before ++ (g ∷ []))
