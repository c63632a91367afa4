-- The values that wait while a condition is worked out, the last of them on top.
use Rattle.std.specs.Prelude.{ℕ, ◌-◌, List, [], ◌∷◌, ◌++◌, length, take, slice_index_or}
use Rattle.books.specs.declared.item.Item.{Item}
use Rattle.books.specs.declared.item.Item.TheVariants.{Range, Group, And, Or, Not}
use Rattle.states.specs.declared.state.State.{State}
use Rattle.conditions.specs.declared.truth.Truth.{Truth}
use Rattle.conditions.specs.declared.truth.Truth.TheVariants.{Unknown}
use Rattle.books.specs.Items.{takes}
use Rattle.states.specs.States.{known}
use Rattle.books.specs.Trees.{member}
use Rattle.conditions.specs.Truths.{conj, disj, neg, within}

-- the k-th value from the top
abbrev pub top : List Truth → ℕ → Truth
top xs k = slice_index_or xs (length xs - k) Unknown

-- one value in place of the k at the top
abbrev pub replaced : List Truth → ℕ → Truth → List Truth
replaced xs k t = take (length xs - k) xs ++ t ∷ []

-- the value that an item gives
abbrev pub value : Item → State → List Truth → Truth
value (Range v lo hi) s xs = within (known s v) lo hi
value (Group n) s xs = member (known s 4) n
value And s xs = conj (top xs 2) (top xs 1)
value Or s xs = disj (top xs 2) (top xs 1)
value Not s xs = neg (top xs 1)

-- the values that wait after an item
abbrev pub applied : Item → State → List Truth → List Truth
applied i s xs = replaced xs (takes i) (value i s xs)
