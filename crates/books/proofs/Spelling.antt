-- The tree of a condition's bytes is the one that they spell. Assumes nothing.
use Rattle.std.proofs.Common.{◌≡◌, ℕ, zero, suc, ◌+◌, ◌*◌, ◌/◌, ◌%◌, ◌<◌, ◌≤◌, Bool, true, false, cond, ◌⊎◌, List, [], ◌∷◌, ◌++◌, length, get_or, drop, Some, None, Option, sym, refl, ap, ◌∙◌, subst, inl, inr, ⊎_elim, append_assoc, append-nil, arith}
use Rattle.std.proofs.lemmas.Bool.{cond-true, and_from, and_parts, le-leb, lt-ltb, leb-true, ltb-true, eqb-true}
use Rattle.books.specs.declared.item.Item.{Item}
use Rattle.books.specs.declared.item.Item.TheVariants.{Range, Group, And, Or, Not}
use Rattle.books.specs.Items.{item_at, operands, Suits, when, wide_at}
use Rattle.books.specs.Trees.{Tree, range, group, both, either, negated, spell, room, Sound, Spells}
use Rattle.books.specs.Readings.{grown, sole, tree_from, tree, Bytes, Spelled}
use Rattle.books.proofs.Reading.{tree_item, then_item, by_item}

rejoin : (n : ℕ) → 256 * (n / 256) + n % 256 ≡ n
rejoin n = omega arith

-- ---- what is spelled is found

range_item : (v lo hi w : ℕ) (rest : List ℕ) → v < 8 → w < 8 → item_at (spell (range v lo hi) ++ rest) w ≡ Some (Range v lo hi)
range_item v lo hi w rest hv hw =
    cond-true _ _ _ (and_from _ _ (le-leb 6 (length (spell (range v lo hi) ++ rest)) (omega arith)) (and_from _ _ (lt-ltb v 8 hv) (lt-ltb w 8 hw)))
    ∙ (λ i. Some (Range v (rejoin lo i) (rejoin hi i)))

group_item : (n w : ℕ) (rest : List ℕ) → n < 16 → w < 8 → item_at (spell (group n) ++ rest) w ≡ Some (Group n)
group_item n w rest hn hw =
    cond-true _ _ _ (and_from _ _ (le-leb 2 (length (spell (group n) ++ rest)) (omega arith)) (and_from _ _ (lt-ltb n 16 hn) (lt-ltb w 8 hw)))

and_item : (w : ℕ) (rest : List ℕ) → 2 ≤ w → item_at (0xB3 ∷ rest) w ≡ Some And
and_item w rest h = cond-true _ _ _ (le-leb 2 w h)

or_item : (w : ℕ) (rest : List ℕ) → 2 ≤ w → item_at (0xB4 ∷ rest) w ≡ Some Or
or_item w rest h = cond-true _ _ _ (le-leb 2 w h)

not_item : (w : ℕ) (rest : List ℕ) → 1 ≤ w → item_at (0xB5 ∷ rest) w ≡ Some Not
not_item w rest h = cond-true _ _ _ (le-leb 1 w h)

joined_spell : (a b c rest : List ℕ) → ((a ++ b) ++ c) ++ rest ≡ a ++ (b ++ (c ++ rest))
joined_spell a b c rest = append_assoc (a ++ b) c rest ∙ append_assoc a b (c ++ rest)

from_spell : (t : Tree) (ts : List Tree) (rest : List ℕ) → Sound t → length ts + room t ≤ 8 → tree_from 0 ts (spell t ++ rest) ≡ tree_from 0 (t ∷ ts) rest
from_spell (range v lo hi) ts rest sound few = tree_item ts (spell (range v lo hi) ++ rest) (Range v lo hi) (range_item v lo hi (length ts) rest sound.0 (omega arith)) (omega arith)
from_spell (group n) ts rest sound few = tree_item ts (spell (group n) ++ rest) (Group n) (group_item n (length ts) rest sound (omega arith)) (omega arith)
from_spell (both a b) ts rest sound few =
    ap (tree_from 0 ts) (joined_spell (spell a) (spell b) (0xB3 ∷ []) rest)
    ∙ from_spell a ts (spell b ++ 0xB3 ∷ rest) sound.0 (omega arith)
    ∙ from_spell b (a ∷ ts) (0xB3 ∷ rest) sound.1 (omega arith)
    ∙ tree_item (b ∷ a ∷ ts) (0xB3 ∷ rest) And (and_item (length (b ∷ a ∷ ts)) rest (omega arith)) (omega arith)
from_spell (either a b) ts rest sound few =
    ap (tree_from 0 ts) (joined_spell (spell a) (spell b) (0xB4 ∷ []) rest)
    ∙ from_spell a ts (spell b ++ 0xB4 ∷ rest) sound.0 (omega arith)
    ∙ from_spell b (a ∷ ts) (0xB4 ∷ rest) sound.1 (omega arith)
    ∙ tree_item (b ∷ a ∷ ts) (0xB4 ∷ rest) Or (or_item (length (b ∷ a ∷ ts)) rest (omega arith)) (omega arith)
from_spell (negated a) ts rest sound few =
    ap (tree_from 0 ts) (append_assoc (spell a) (0xB5 ∷ []) rest)
    ∙ from_spell a ts (0xB5 ∷ rest) sound few
    ∙ tree_item (a ∷ ts) (0xB5 ∷ rest) Not (not_item (length (a ∷ ts)) rest (omega arith)) (omega arith)

pub found : (bs : List ℕ) (t : Tree) → Spells t bs → tree bs ≡ Some t
found bs t h =
    ap tree (sym h.0 ∙ sym (append-nil (spell t))) ∙ from_spell t [] [] h.1 (omega (arith, h.2))

-- ---- what is found is spelled

-- the bytes of an item
abbrev code : Item → List ℕ
code (Range v lo hi) = 0xB1 ∷ v ∷ lo / 256 ∷ lo % 256 ∷ hi / 256 ∷ hi % 256 ∷ []
code (Group n) = 0xB2 ∷ n ∷ []
code And = 0xB3 ∷ []
code Or = 0xB4 ∷ []
code Not = 0xB5 ∷ []

-- the bounds of a range fit two bytes
abbrev Small : Item → Type 0
Small (Range v lo hi) = (lo < 65536) × (hi < 65536)
Small (Group n) = Unit {0}
Small And = Unit {0}
Small Or = Unit {0}
Small Not = Unit {0}

record Front (bs : List ℕ) (w : ℕ) (i : Item) : Type 0 where
  is : bs ≡ code i ++ drop (suc (operands i)) bs
  suits : Suits i w
  small : Small i
  whole : operands i < length bs

if_some : {A : Type 0} (b : Bool) (x y : A) → when b x ≡ Some y → (b ≡ true) × (x ≡ y)
if_some true x y e = (refl, cc)
if_some false x y e = absurd cc

choice : {A : Type 0} (b : Bool) (x y z : A) → cond b x y ≡ z → ((b ≡ true) × (x ≡ z)) ⊎ (y ≡ z)
choice true x y z e = inl (refl, e)
choice false x y z e = inr e

-- a number of two bytes, taken apart again
high : (a b : ℕ) → b < 256 → (256 * a + b) / 256 ≡ a
high a b h = omega arith

low : (a b : ℕ) → b < 256 → (256 * a + b) % 256 ≡ b
low a b h = omega arith

range_front : (bs : List ℕ) (w : ℕ) → Bytes bs → get_or bs 0 0 ≡ 0xB1 → 6 ≤ length bs → get_or bs 1 0 < 8 → w < 8 → Front bs w (Range (get_or bs 1 0) (wide_at bs 2) (wide_at bs 4))
range_front [] w bytes tag long hv hw = absurd (omega arith)
range_front (t ∷ []) w bytes tag long hv hw = absurd (omega arith)
range_front (t ∷ v ∷ []) w bytes tag long hv hw = absurd (omega arith)
range_front (t ∷ v ∷ a ∷ []) w bytes tag long hv hw = absurd (omega arith)
range_front (t ∷ v ∷ a ∷ b ∷ []) w bytes tag long hv hw = absurd (omega arith)
range_front (t ∷ v ∷ a ∷ b ∷ c ∷ []) w bytes tag long hv hw = absurd (omega arith)
range_front (t ∷ v ∷ a ∷ b ∷ c ∷ d ∷ rest) w bytes tag long hv hw =
    let ha = bytes 2 in let hb = bytes 3 in let hc = bytes 4 in let hd = bytes 5 in
    record {
      is = (λ i. tag i ∷ v ∷ sym (high a b hb) i ∷ sym (low a b hb) i ∷ sym (high c d hd) i ∷ sym (low c d hd) i ∷ rest);
      suits = (hv, hw);
      small = (omega arith, omega arith);
      whole = omega arith;
    }

group_front : (bs : List ℕ) (w : ℕ) → get_or bs 0 0 ≡ 0xB2 → 2 ≤ length bs → get_or bs 1 0 < 16 → w < 8 → Front bs w (Group (get_or bs 1 0))
group_front [] w tag long hv hw = absurd (omega arith)
group_front (t ∷ []) w tag long hv hw = absurd (omega arith)
group_front (t ∷ n ∷ rest) w tag long hv hw = record { is = ap (λ x. x ∷ n ∷ rest) tag; suits = (hv, hw); small = tt; whole = omega arith }

front : (b : ℕ) (bs : List ℕ) (w : ℕ) (i : Item) → Bytes (b ∷ bs) → item_at (b ∷ bs) w ≡ Some i → Front (b ∷ bs) w i
front b bs w i bytes e =
    ⊎_elim (λ h. let t = if_some _ _ _ h.1 in let p = and_parts _ _ t.0 in let q = and_parts _ _ p.1 in
    subst (Front (b ∷ bs) w) t.1 (range_front (b ∷ bs) w bytes (eqb-true b 0xB1 h.0) (leb-true 6 (length (b ∷ bs)) p.0) (ltb-true (get_or (b ∷ bs) 1 0) 8 q.0) (ltb-true w 8 q.1)))
    (λ e1. ⊎_elim (λ h. let t = if_some _ _ _ h.1 in let p = and_parts _ _ t.0 in let q = and_parts _ _ p.1 in
    subst (Front (b ∷ bs) w) t.1 (group_front (b ∷ bs) w (eqb-true b 0xB2 h.0) (leb-true 2 (length (b ∷ bs)) p.0) (ltb-true (get_or (b ∷ bs) 1 0) 16 q.0) (ltb-true w 8 q.1)))
    (λ e2. ⊎_elim (λ h. let t = if_some _ _ _ h.1 in
    subst (Front (b ∷ bs) w) t.1 (record { is = ap (λ x. x ∷ bs) (eqb-true b 0xB3 h.0); suits = leb-true 2 w t.0; small = tt; whole = omega arith }))
    (λ e3. ⊎_elim (λ h. let t = if_some _ _ _ h.1 in
    subst (Front (b ∷ bs) w) t.1 (record { is = ap (λ x. x ∷ bs) (eqb-true b 0xB4 h.0); suits = leb-true 2 w t.0; small = tt; whole = omega arith }))
    (λ e4. ⊎_elim (λ h. let t = if_some _ _ _ h.1 in
    subst (Front (b ∷ bs) w) t.1 (record { is = ap (λ x. x ∷ bs) (eqb-true b 0xB5 h.0); suits = leb-true 1 w t.0; small = tt; whole = omega arith }))
    (λ e5. absurd cc)
    (choice _ _ _ _ e4)) (choice _ _ _ _ e3)) (choice _ _ _ _ e2)) (choice _ _ _ _ e1)) (choice _ _ _ _ e)

-- the bytes of the trees that wait, the first at the bottom
spells : List Tree → List ℕ
spells [] = []
spells (t ∷ ts) = spells ts ++ spell t

abbrev Fits : List Tree → Type 0
Fits [] = Unit {0}
Fits (t ∷ ts) = (length ts + room t ≤ 8) × Sound t × Fits ts

fits_grown : (i : Item) (ts : List Tree) → Suits i (length ts) → Small i → Fits ts → Fits (grown i ts)
fits_grown (Range v lo hi) ts suits small fits = (omega arith, (suits.0, small.0, small.1), fits)
fits_grown (Group n) ts suits small fits = (omega arith, suits.0, fits)
fits_grown And [] suits small fits = tt
fits_grown And (b ∷ []) suits small fits = tt
fits_grown And (b ∷ a ∷ ts) suits small fits = (omega arith, (fits.2.1, fits.1), fits.2.2)
fits_grown Or [] suits small fits = tt
fits_grown Or (b ∷ []) suits small fits = tt
fits_grown Or (b ∷ a ∷ ts) suits small fits = (omega arith, (fits.2.1, fits.1), fits.2.2)
fits_grown Not [] suits small fits = tt
fits_grown Not (a ∷ ts) suits small fits = fits

spells_grown : (i : Item) (ts : List Tree) → Suits i (length ts) → spells (grown i ts) ≡ spells ts ++ code i
unfolding spells
spells_grown (Range v lo hi) ts suits = refl
spells_grown (Group n) ts suits = refl
spells_grown And [] suits = absurd (omega arith)
spells_grown And (b ∷ []) suits = absurd (omega arith)
spells_grown And (b ∷ a ∷ ts) suits = simp append_assoc
spells_grown Or [] suits = absurd (omega arith)
spells_grown Or (b ∷ []) suits = absurd (omega arith)
spells_grown Or (b ∷ a ∷ ts) suits = simp append_assoc
spells_grown Not [] suits = absurd (omega arith)
spells_grown Not (a ∷ ts) suits = simp append_assoc

ended : (ts : List Tree) (t : Tree) → Fits ts → sole ts ≡ Some t → Spells t (spells ts)
unfolding spells
ended [] t fits e = absurd cc
ended (u ∷ []) t fits e = let same : u ≡ t = cc in subst (λ x. Spells x (spell u)) same (refl, fits.1, omega (arith, fits.0))
ended (u ∷ x ∷ ts) t fits e = absurd cc

next_item : (ts : List Tree) (b : ℕ) (bs : List ℕ) (t : Tree) (o : Option Item) → item_at (b ∷ bs) (length ts) ≡ o → then_item ts bs o ≡ Some t → (i : Item) × (item_at (b ∷ bs) (length ts) ≡ Some i) × (tree_from (operands i) (grown i ts) bs ≡ Some t)
unfolding then_item
next_item ts b bs t None is e = absurd cc
next_item ts b bs t (Some i) is e = (i, is, e)

from_found : (k : ℕ) (ts : List Tree) (bs : List ℕ) (t : Tree) → k ≤ length bs → Bytes bs → Fits ts → tree_from k ts bs ≡ Some t → Spells t (spells ts ++ drop k bs)
from_found zero ts [] t h bytes fits e = subst (Spells t) (sym (append-nil (spells ts))) (ended ts t fits e)
from_found (suc k) ts [] t h bytes fits e = absurd (omega arith)
from_found (suc k) ts (b ∷ bs) t h bytes fits e = from_found k ts bs t (omega arith) (λ i. bytes (suc i)) fits e
from_found zero ts (b ∷ bs) t h bytes fits e =
    let n = next_item ts b bs t _ refl (sym (by_item ts b bs) ∙ e) in
    let i = n.0 in
    let f = front b bs (length ts) i bytes n.1 in
    let rest = from_found (operands i) (grown i ts) bs t (omega (arith, f.whole)) (λ j. bytes (suc j)) (fits_grown i ts f.suits f.small fits) n.2 in
    subst (Spells t) (ap (λ l. l ++ drop (operands i) bs) (spells_grown i ts f.suits) ∙ append_assoc (spells ts) (code i) (drop (operands i) bs) ∙ sym (ap (λ l. spells ts ++ l) f.is)) rest

pub spelled : Spelled
unfolding spells
spelled bs t bytes = (from_found 0 [] bs t (omega arith) bytes tt, found bs t)
