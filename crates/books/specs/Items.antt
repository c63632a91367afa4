-- The items of a condition's bytes: which there are, and what stands at the front of some bytes.
use Rattle.std.specs.Prelude.{◌≡◌, ℕ, ◌+◌, ◌-◌, ◌*◌, ◌<◌, ◌≤◌, Bool, cond, ◌&&◌, List, length, drop, Some, None, Option, MatchOption, ◌==◌, nat_le, nat_lt, slice_index}
use Rattle.books.specs.declared.item.Item.{Item}
use Rattle.books.specs.declared.item.Item.TheVariants.{Range, Group, And, Or, Not}

-- x, where the test holds
abbrev pub when : {A : Type 0} → Bool → A → Option A
when b x = cond b (Some x) None

-- two bytes, the high one first
abbrev pub wide_at : List ℕ → ℕ → ℕ
wide_at xs i = 256 * slice_index xs i + slice_index xs (i + 1)

-- how many bytes follow an item's code
abbrev pub operands : Item → ℕ
operands (Range v lo hi) = 5
operands (Group n) = 1
operands And = 0
operands Or = 0
operands Not = 0

-- the item may stand where w values wait
abbrev pub Suits : Item → ℕ → Type 0
Suits (Range v lo hi) w = (v < 8) × (w < 8)
Suits (Group n) w = (n < 16) × (w < 8)
Suits And w = 2 ≤ w
Suits Or w = 2 ≤ w
Suits Not w = 1 ≤ w

-- how many values an item takes
abbrev pub takes : Item → ℕ
takes (Range v lo hi) = 0
takes (Group n) = 0
takes And = 2
takes Or = 2
takes Not = 1

-- how many values wait after it
abbrev pub after : Item → ℕ → ℕ
after i w = w - takes i + 1

-- the item that xs begins with, where w values wait
abbrev pub item_at : List ℕ → ℕ → Option Item
item_at xs w =
    cond (slice_index xs 0 == 0xB1) (when (nat_le 6 (length xs) && (nat_lt (slice_index xs 1) 8 && nat_lt w 8)) (Range (slice_index xs 1) (wide_at xs 2) (wide_at xs 4)))
    (cond (slice_index xs 0 == 0xB2) (when (nat_le 2 (length xs) && (nat_lt (slice_index xs 1) 16 && nat_lt w 8)) (Group (slice_index xs 1)))
    (cond (slice_index xs 0 == 0xB3) (when (nat_le 2 w) And)
    (cond (slice_index xs 0 == 0xB4) (when (nat_le 2 w) Or)
    (cond (slice_index xs 0 == 0xB5) (when (nat_le 1 w) Not) None))))

-- the item r was read from the front of xs, where w values wait, and then ys is left and v values wait; without an item nothing was read
abbrev pub Reads : List ℕ → ℕ → Option Item → List ℕ → ℕ → Type 0
Reads xs w r ys v =
    MatchOption r ((item_at xs w ≡ None) × (ys ≡ xs) × (v ≡ w))
    (λ i. (item_at xs w ≡ Some i) × Suits i w × (operands i < length xs) × (ys ≡ drop (1 + operands i) xs) × (v ≡ after i w))
