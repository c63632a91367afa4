-- What a condition means: an expression tree, and the bytes that spell it in postfix order.
use Rattle.std.specs.Prelude.{◌≡◌, ℕ, ◌+◌, ◌/◌, ◌%◌, ◌^◌, ◌<◌, ◌≤◌, max, cond, List, [], ◌∷◌, ◌++◌, Some, None, Option, ◌==◌}
use Rattle.states.specs.declared.state.State.{State}
use Rattle.conditions.specs.declared.truth.Truth.{Truth}
use Rattle.conditions.specs.declared.truth.Truth.TheVariants.{True, False, Unknown}
use Rattle.states.specs.States.{known}
use Rattle.conditions.specs.Truths.{conj, disj, neg, within}

-- a test of a variable's range or of a group, or "and", "or" and "not" over other trees
pub data Tree : Type 0 where
  range : ℕ → ℕ → ℕ → Tree
  group : ℕ → Tree
  both : Tree → Tree → Tree
  either : Tree → Tree → Tree
  negated : Tree → Tree

-- a set of groups has group n; of an unknown set that is unknown
abbrev pub member : Option ℕ → ℕ → Truth
member None n = Unknown
member (Some x) n = cond ((x / 2 ^ n) % 2 == 1) True False

-- what a tree says of a state; variable 4 is GROUPS
abbrev pub meaning : Tree → State → Truth
meaning (range v lo hi) s = within (known s v) lo hi
meaning (group n) s = member (known s 4) n
meaning (both a b) s = conj (meaning a s) (meaning b s)
meaning (either a b) s = disj (meaning a s) (meaning b s)
meaning (negated a) s = neg (meaning a s)

-- the bytes of a tree, in postfix order; the bounds of a range have two bytes each
abbrev pub spell : Tree → List ℕ
spell (range v lo hi) = 0xB1 ∷ v ∷ lo / 256 ∷ lo % 256 ∷ hi / 256 ∷ hi % 256 ∷ []
spell (group n) = 0xB2 ∷ n ∷ []
spell (both a b) = spell a ++ spell b ++ 0xB3 ∷ []
spell (either a b) = spell a ++ spell b ++ 0xB4 ∷ []
spell (negated a) = spell a ++ 0xB5 ∷ []

-- how many values wait at most while the tree is worked out
abbrev pub room : Tree → ℕ
room (range v lo hi) = 1
room (group n) = 1
room (both a b) = max (room a) (1 + room b)
room (either a b) = max (room a) (1 + room b)
room (negated a) = room a

-- the operands are in range
abbrev pub Sound : Tree → Type 0
Sound (range v lo hi) = (v < 8) × (lo < 65536) × (hi < 65536)
Sound (group n) = n < 16
Sound (both a b) = Sound a × Sound b
Sound (either a b) = Sound a × Sound b
Sound (negated a) = Sound a

-- bs are the bytes of t, its operands are in range, and at most eight values wait
abbrev pub Spells : Tree → List ℕ → Type 0
Spells t bs = (spell t ≡ bs) × Sound t × (room t ≤ 8)
