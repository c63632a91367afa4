-- The reading of a condition's bytes, item by item. What it finds is the tree that the bytes spell, and nothing else.
use Rattle.std.specs.Prelude.{◌≡◌, ℕ, zero, suc, ◌<◌, List, [], ◌∷◌, length, Some, None, Option, slice_index}
use Rattle.states.specs.declared.state.State.{State}
use Rattle.conditions.specs.declared.truth.Truth.{Truth}
use Rattle.conditions.specs.declared.truth.Truth.TheVariants.{Unknown}
use Rattle.books.specs.declared.item.Item.{Item}
use Rattle.books.specs.declared.item.Item.TheVariants.{Range, Group, And, Or, Not}
use Rattle.books.specs.Items.{item_at, operands}
use Rattle.books.specs.Trees.{Tree, range, group, both, either, negated, meaning, Spells}

-- the trees that wait after an item, the last first; an item is read only where enough of them wait
abbrev pub grown : Item → List Tree → List Tree
grown (Range v lo hi) ts = range v lo hi ∷ ts
grown (Group n) ts = group n ∷ ts
grown And [] = []
grown And (b ∷ []) = []
grown And (b ∷ a ∷ ts) = both a b ∷ ts
grown Or [] = []
grown Or (b ∷ []) = []
grown Or (b ∷ a ∷ ts) = either a b ∷ ts
grown Not [] = []
grown Not (a ∷ ts) = negated a ∷ ts

-- just one tree is left at the end
abbrev pub sole : List Tree → Option Tree
sole [] = None
sole (t ∷ []) = Some t
sole (t ∷ u ∷ ts) = None

-- the tree that the bytes spell, where the trees ts wait and the first k bytes are operands already read
abbrev pub tree_from : ℕ → List Tree → List ℕ → Option Tree
tree_from k ts [] = sole ts
tree_from zero ts (b ∷ bs) = elim (item_at (b ∷ bs) (length ts)) [ None ↦ None | Some i ↦ tree_from (operands i) (grown i ts) bs ]
tree_from (suc k) ts (b ∷ bs) = tree_from k ts bs

-- the tree of a condition's bytes, if they have one
abbrev pub tree : List ℕ → Option Tree
tree bs = tree_from 0 [] bs

-- what a condition says; without a tree it says nothing
abbrev pub truth_of : Option Tree → State → Truth
truth_of None s = Unknown
truth_of (Some t) s = meaning t s

-- numbers of a slice of bytes
abbrev pub Bytes : List ℕ → Type 0
Bytes bs = (i : ℕ) → slice_index bs i < 256

-- the tree that is found is the one that the bytes spell, and there is no other
abbrev pub Spelled : Type 0
Spelled = (bs : List ℕ) (t : Tree) → Bytes bs → ((tree bs ≡ Some t → Spells t bs) × (Spells t bs → tree bs ≡ Some t))
