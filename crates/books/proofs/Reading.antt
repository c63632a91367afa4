-- How the tree of a condition's bytes is found item by item, and its value beside it. Assumes nothing.
use Rattle.std.proofs.Common.{◌≡◌, ℕ, zero, suc, ◌+◌, ◌<◌, ◌≤◌, true, false, ◌&&◌, eqb, List, [], ◌∷◌, ◌++◌, length, drop, is_some, Some, None, Option, sym, refl, ap, ◌∙◌, subst, arith}
use Rattle.std.proofs.lemmas.Bool.{eqb-true, ne_eqb}
use Rattle.std.proofs.lemmas.Grind.{common_steps}
use Rattle.books.specs.declared.item.Item.{Item}
use Rattle.books.specs.declared.item.Item.TheVariants.{Range, Group, And, Or, Not}
use Rattle.states.specs.declared.state.State.{State}
use Rattle.conditions.specs.declared.truth.Truth.{Truth}
use Rattle.books.specs.Items.{item_at, operands, after, Suits, Reads}
use Rattle.books.specs.Stacks.{top, replaced, applied}
use Rattle.books.specs.Trees.{Tree, meaning}
use Rattle.books.specs.Readings.{grown, sole, tree_from, tree, truth_of}
use Rattle.conditions.specs.Truths.{conj, disj, neg}

tree_skip : (k : ℕ) (ts : List Tree) (bs : List ℕ) → k ≤ length bs → tree_from k ts bs ≡ tree_from 0 ts (drop k bs)
tree_skip zero ts bs h = refl
tree_skip (suc k) ts [] h = absurd (omega arith)
tree_skip (suc k) ts (b ∷ bs) h = tree_skip k ts bs (omega arith)

-- what follows on the item that was read
unfoldable pub then_item : List Tree → List ℕ → Option Item → Option Tree
then_item ts bs None = None
then_item ts bs (Some i) = tree_from (operands i) (grown i ts) bs

pub by_item : (ts : List Tree) (b : ℕ) (bs : List ℕ) → tree_from 0 ts (b ∷ bs) ≡ then_item ts bs (item_at (b ∷ bs) (length ts))
unfolding then_item
by_item ts b bs = elim (item_at (b ∷ bs) (length ts)) as (λ o. elim o [ None ↦ None | Some i ↦ tree_from (operands i) (grown i ts) bs ] ≡ then_item ts bs o) [ None ↦ refl | Some i ↦ refl ]

pub tree_item : (ts : List Tree) (ys : List ℕ) (i : Item) → item_at ys (length ts) ≡ Some i → operands i < length ys → tree_from 0 ts ys ≡ tree_from 0 (grown i ts) (drop (suc (operands i)) ys)
unfolding then_item
tree_item ts [] i e h = absurd (omega arith)
tree_item ts (b ∷ bs) i e h = by_item ts b bs ∙ ap (then_item ts bs) e ∙ tree_skip (operands i) (grown i ts) bs (omega arith)

pub tree_none : (ts : List Tree) (ys : List ℕ) → 0 < length ys → item_at ys (length ts) ≡ None → tree_from 0 ts ys ≡ None
unfolding then_item
tree_none ts [] h e = absurd (omega arith)
tree_none ts (b ∷ bs) h e = by_item ts b bs ∙ ap (then_item ts bs) e

pub length_grown : (i : Item) (ts : List Tree) → Suits i (length ts) → length (grown i ts) ≡ after i (length ts)
length_grown (Range v lo hi) ts h = omega arith
length_grown (Group n) ts h = omega arith
length_grown And [] h = absurd (omega arith)
length_grown And (b ∷ []) h = absurd (omega arith)
length_grown And (b ∷ a ∷ ts) h = omega arith
length_grown Or [] h = absurd (omega arith)
length_grown Or (b ∷ []) h = absurd (omega arith)
length_grown Or (b ∷ a ∷ ts) h = omega arith
length_grown Not [] h = absurd (omega arith)
length_grown Not (a ∷ ts) h = omega arith

pub sole_one : (ts : List Tree) → is_some (sole ts) ≡ eqb (length ts) 1
sole_one [] = refl
sole_one (t ∷ []) = refl
sole_one (t ∷ u ∷ ts) = sym (ne_eqb (length (t ∷ u ∷ ts)) 1 (λ e. omega arith))

-- xs is left of the bytes, and the trees ts wait
pub record Read (bytes xs : List ℕ) (waiting : ℕ) : Type 0 where
  pub ts : List Tree
  pub long : waiting ≡ length ts
  pub same : tree_from 0 ts xs ≡ tree bytes

pub read_more : {bytes xs ys : List ℕ} {w v : ℕ} {i : Item} → Read bytes xs w → Reads xs w (Some i) ys v → Read bytes ys v
read_more {bytes} {xs} {ys} {w} {v} {i} r step = record {
  ts = grown i r.ts;
  long = step.4 ∙ ap (after i) r.long ∙ sym (length_grown i r.ts (subst (Suits i) r.long step.1));
  same = let one : 1 + operands i ≡ suc (operands i) = omega arith in
      ap (tree_from 0 (grown i r.ts)) (step.3 ∙ ap (λ k. drop k xs) one) ∙ sym (tree_item r.ts xs i (ap (item_at xs) (sym r.long) ∙ step.0) step.2) ∙ r.same;
}

pub read_on : {bytes xs ys : List ℕ} {w v : ℕ} (r : Option Item) → Read bytes xs w → Reads xs w r ys v → is_some r ≡ true → Read bytes ys v
read_on None k step e = absurd cc
read_on (Some i) k step e = read_more k step

read_bad : {bytes xs : List ℕ} {w : ℕ} → Read bytes xs w → 0 < length xs → item_at xs w ≡ None → tree bytes ≡ None
read_bad {bytes} {xs} k h e = sym k.same ∙ tree_none k.ts xs h (ap (item_at xs) (sym k.long) ∙ e)

-- where no more items come, the bytes spell a condition if all are read and just one tree waits
ended : {bytes : List ℕ} (xs : List ℕ) {w : ℕ} → Read bytes xs w → item_at xs w ≡ None → (eqb (length xs) 0 && eqb w 1) ≡ is_some (tree bytes)
ended [] k e = ap (λ n. eqb n 1) k.long ∙ sym (sole_one k.ts) ∙ ap is_some k.same
ended (x ∷ xs) {w} k e =
    let more : eqb (length (x ∷ xs)) 0 ≡ false = ne_eqb (length (x ∷ xs)) 0 (λ h. omega arith) in
    ap (λ b. b && eqb w 1) more ∙ sym (ap is_some (read_bad k (omega arith) e))

pub read_ended : {bytes xs : List ℕ} {w : ℕ} (ys : List ℕ) (v : ℕ) (r : Option Item) → Read bytes xs w → Reads xs w r ys v → is_some r ≡ false → (eqb (length ys) 0 && eqb v 1) ≡ is_some (tree bytes)
read_ended {xs = xs} ys v None k step e = (λ i. eqb (length (step.1 i)) 0 && eqb (step.2 i) 1) ∙ ended xs k step.0
read_ended ys v (Some i) k step e = absurd cc

-- the values of the trees that wait, the last on top
abbrev pub values : State → List Tree → List Truth
values s [] = []
values s (t ∷ ts) = values s ts ++ meaning t s ∷ []

pub length_values : (s : State) (ts : List Tree) → length (values s ts) ≡ length ts
length_values s [] = refl
length_values s (t ∷ ts) = grind (arith, common_steps, length_values s ts)

top_one : (ys : List Truth) (b : Truth) → top (ys ++ b ∷ []) 1 ≡ b
top_one ys b = grind (arith, common_steps)

top_two : (ys : List Truth) (a b : Truth) → top ((ys ++ a ∷ []) ++ b ∷ []) 2 ≡ a
top_two ys a b = grind (arith, common_steps)

below_one : (ys : List Truth) (b t : Truth) → replaced (ys ++ b ∷ []) 1 t ≡ ys ++ t ∷ []
below_one ys b t = grind (arith, common_steps)

below_two : (ys : List Truth) (a b t : Truth) → replaced ((ys ++ a ∷ []) ++ b ∷ []) 2 t ≡ ys ++ t ∷ []
below_two ys a b t = grind (arith, common_steps)

below_none : (ys : List Truth) (t : Truth) → replaced ys 0 t ≡ ys ++ t ∷ []
below_none ys t = grind (arith, common_steps)

pub values_grown : (s : State) (i : Item) (ts : List Tree) → Suits i (length ts) → applied i s (values s ts) ≡ values s (grown i ts)
values_grown s (Range v lo hi) ts h = below_none _ _
values_grown s (Group n) ts h = below_none _ _
values_grown s And [] h = absurd (omega arith)
values_grown s And (b ∷ []) h = absurd (omega arith)
values_grown s And (b ∷ a ∷ ts) h = below_two (values s ts) _ _ _ ∙ (λ i. values s ts ++ conj (top_two (values s ts) (meaning a s) (meaning b s) i) (top_one (values s (a ∷ ts)) (meaning b s) i) ∷ [])
values_grown s Or [] h = absurd (omega arith)
values_grown s Or (b ∷ []) h = absurd (omega arith)
values_grown s Or (b ∷ a ∷ ts) h = below_two (values s ts) _ _ _ ∙ (λ i. values s ts ++ disj (top_two (values s ts) (meaning a s) (meaning b s) i) (top_one (values s (a ∷ ts)) (meaning b s) i) ∷ [])
values_grown s Not [] h = absurd (omega arith)
values_grown s Not (a ∷ ts) h = below_one (values s ts) _ _ ∙ ap (λ t. values s ts ++ neg t ∷ []) (top_one (values s ts) (meaning a s))

after_le : (i : Item) (w : ℕ) → Suits i w → w ≤ 8 → after i w ≤ 8
after_le (Range v lo hi) w h k = omega arith
after_le (Group n) w h k = omega arith
after_le And w h k = omega arith
after_le Or w h k = omega arith
after_le Not w h k = omega arith

-- xs is left of the bytes, and the stack holds the values of the trees that wait
pub record Worked (bytes : List ℕ) (s : State) (xs : List ℕ) (waiting : ℕ) (stack : List Truth) : Type 0 where
  pub read : Read bytes xs waiting
  pub few : waiting ≤ 8
  pub holds : stack ≡ values s read.ts

pub worked_none : {bytes xs : List ℕ} {w : ℕ} {stack : List Truth} (s : State) → xs ≡ bytes → w ≡ 0 → stack ≡ [] → Worked bytes s xs w stack
worked_none s rest waiting none = record { read = record { ts = []; long = waiting; same = ap (tree_from 0 []) rest }; few = omega (arith, waiting); holds = none }

-- as many values wait as the items say
worked_long : {bytes xs : List ℕ} {s : State} {w : ℕ} {stack : List Truth} → Worked bytes s xs w stack → w ≡ length stack
worked_long {s = s} k = k.read.long ∙ sym (length_values s k.read.ts) ∙ sym (ap length k.holds)

module _ {bytes xs : List ℕ} {s : State} {w : ℕ} {stack : List Truth} (k : Worked bytes s xs w stack) where
  pub worked_suits : (i : Item) → Suits i w → Suits i (length stack) × (length stack ≤ 8)
  worked_suits i suits = (subst (Suits i) (worked_long k) suits, subst (λ n. n ≤ 8) (worked_long k) k.few)

  pub worked_more : {ys : List ℕ} {v : ℕ} {i : Item} → Reads xs w (Some i) ys v → Worked bytes s ys v (applied i s stack)
  unfolding read_more
  worked_more {i = i} step = record {
    read = read_more k.read step;
    few = subst (λ n. n ≤ 8) (sym step.4) (after_le i w step.1 k.few);
    holds = ap (applied i s) k.holds ∙ values_grown s i k.read.ts (subst (Suits i) k.read.long step.1);
  }

-- a condition leaves one value at its end, which is what it says
one_left : {bytes : List ℕ} (xs : List ℕ) {w : ℕ} (k : Read bytes xs w) → item_at xs w ≡ None → is_some (tree bytes) ≡ true → (length k.ts ≡ 1) × (tree bytes ≡ sole k.ts)
one_left [] k e some = (eqb-true (length k.ts) 1 (sym (sole_one k.ts) ∙ ap is_some k.same ∙ some), sym k.same)
one_left (x ∷ xs) k e some = let none = read_bad k (omega arith) e in absurd cc

only_one : (ts : List Tree) (s : State) → length ts ≡ 1 → top (values s ts) 1 ≡ truth_of (sole ts) s
only_one [] s e = absurd (omega arith)
only_one (t ∷ []) s e = refl
only_one (t ∷ u ∷ ts) s e = absurd (omega arith)

module _ {bytes xs : List ℕ} {s : State} {w : ℕ} {stack : List Truth} (k : Worked bytes s xs w stack) (e : item_at xs w ≡ None) (some : is_some (tree bytes) ≡ true) where
  pub worked_one : 1 ≤ length stack
  worked_one = let one = one_left xs k.read e some in omega (arith, worked_long k, k.read.long)

  pub worked_all : top stack 1 ≡ truth_of (tree bytes) s
  worked_all =
      let one = one_left xs k.read e some in
      ap (λ ys. top ys 1) k.holds ∙ only_one k.read.ts s one.0 ∙ sym (ap (λ o. truth_of o s) one.1)
