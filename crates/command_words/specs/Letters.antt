-- Words that are spelled as one letter each.
use Rattle.std.specs.Prelude.{◌≡◌, ℕ, cond, List, [], ◌∷◌, Some, None, Option, ◌==◌}

-- the word of a letter, if one of the words has it
abbrev pub named : {X : Type 0} → (X → ℕ) → List X → ℕ → Option X
named letter [] l = None
named letter (x ∷ more) l = cond (l == letter x) (Some x) (named letter more l)

-- every word is the one that its letter names
abbrev pub Lettered : {X : Type 0} → List X → (X → ℕ) → Type 0
Lettered {X = X} words letter = (x : X) → named letter words (letter x) ≡ Some x
