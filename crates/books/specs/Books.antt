-- The book: fields with one condition each, numbered from 2.
use Rattle.std.specs.Prelude.{◌≡◌, ℕ, zero, suc, ◌+◌, ◌-◌, ◌<◌, ◌≤◌, Bool, true, cond, ◌&&◌, List, length, take, drop, is_some, Ok, Err, Option, Result, ◌==◌, nat_le, nat_lt, slice_index, slice_index_or}
use Rattle.faults.specs.declared.Fault.{Fault}
use Rattle.faults.specs.declared.Refusal.TheVariants.{ConditionsIllFormed}
use Rattle.faults.specs.Faults.{fault}
use Rattle.states.specs.declared.state.State.{State}
use Rattle.conditions.specs.declared.truth.Truth.{Truth}
use Rattle.conditions.specs.Own.{with_own}
use Rattle.books.specs.Items.{when, wide_at}
use Rattle.books.specs.Trees.{Tree, meaning, Spells}
use Rattle.books.specs.Readings.{tree, truth_of}

-- the length that a field states in the two bytes behind its tag, and so many bytes behind these
abbrev pub long : List ℕ → ℕ
long fs = wide_at fs 1

abbrev pub body : List ℕ → List ℕ
body fs = take (long fs) (drop 3 fs)

-- where the k-th field of a book begins, from 0; each field takes three bytes and its stated length
abbrev pub start : List ℕ → ℕ → ℕ
start bs zero = 0
start bs (suc k) = start bs k + (3 + long (drop (start bs k) bs))

-- the bytes of the k-th condition of a book's own, from 0
abbrev pub condition_bytes : List ℕ → ℕ → List ℕ
condition_bytes bs k = body (drop (start bs k) bs)

-- ---- the rules of a book

-- fs begins with a whole field: tag C1, a stated length from 1 to 64, and bytes that spell a condition
pub record Field (fs : List ℕ) : Type 0 where
  pub tag : slice_index_or fs 0 0 ≡ 0xC1
  pub header : 3 ≤ length fs
  pub some : 1 ≤ long fs
  pub most : long fs ≤ 64
  pub whole : 3 + long fs ≤ length fs
  pub spelled : (t : Tree) × Spells t (body fs)

-- the k-th field keeps every rule: it is whole, among the first 1,022, and ends within 65,535 bytes
abbrev pub Rules : List ℕ → ℕ → Type 0
Rules bs k = Field (drop (start bs k) bs) × (k < 1022) × (start bs k + (3 + long (drop (start bs k) bs)) ≤ 65535)

-- what the check's answer says: accepted with k, the book is k fields that keep the rules; refused, it is
-- at the byte where the first field begins that does not
abbrev pub Judged : List ℕ → Result ℕ Fault → Type 0
Judged bs (Ok k) = (start bs k ≡ length bs) × ((j : ℕ) → j < k → Rules bs j)
Judged bs (Err e) =
    (k : ℕ) × (e ≡ fault ConditionsIllFormed (start bs k)) × (start bs k < length bs) × ((j : ℕ) → j < k → Rules bs j) × (Rules bs k → ⊥)

-- ---- the same, as tests

-- a whole field with a condition stands at the front of fs
abbrev pub field_ok : List ℕ → Bool
field_ok fs = slice_index fs 0 == 0xC1 && (nat_le 3 (length fs) && (nat_le 1 (long fs) && (nat_le (long fs) 64 && (nat_le (3 + long fs) (length fs) && is_some (tree (body fs))))))

-- its condition's length
abbrev pub field_at : List ℕ → Option ℕ
field_at fs = when (field_ok fs) (long fs)

-- the field at p is well formed, and ends within the book's greatest length
abbrev pub good_at : List ℕ → ℕ → Bool
good_at bs p = field_ok (drop p bs) && nat_le (p + (3 + long (drop p bs))) 65535

-- field by field from the k-th on, f at the most: how many fields there are, or where the first bad or excess one begins
abbrev pub checked_from : ℕ → List ℕ → ℕ → Result ℕ Fault
checked_from zero bs k = Ok k
checked_from (suc f) bs k =
    cond (nat_le (length bs) (start bs k)) (Ok k)
    (cond (nat_lt k 1022 && good_at bs (start bs k)) (checked_from f bs (suc k)) (Err (fault ConditionsIllFormed (start bs k))))

-- the answer of the check; a book has no more fields than bytes
abbrev pub checked : List ℕ → Result ℕ Fault
checked bs = checked_from (length bs) bs 0

-- ---- an opened book

-- the first k fields are well formed
abbrev pub Formed : List ℕ → ℕ → Type 0
Formed bs k = (k ≤ 1022) × ((j : ℕ) → j < k → good_at bs (start bs j) ≡ true)

-- the list tells where each of the first k fields begins
abbrev pub Placed : List ℕ → ℕ → List ℕ → Type 0
Placed bs k starts = (j : ℕ) → j < k → slice_index starts j ≡ start bs j

-- the bytes of condition n, if it is one of the book's own
abbrev pub condition_of : List ℕ → ℕ → ℕ → Option (List ℕ)
condition_of bs count n = when (nat_le 2 n && nat_lt n (count + 2)) (condition_bytes bs (n - 2))

-- what the conditions of a book say, count of them its own
abbrev pub book_says : List ℕ → ℕ → ℕ → State → Truth
book_says bs count = with_own count (λ k s. truth_of (tree (condition_bytes bs k)) s)

-- a condition says what the tree means that its bytes spell
abbrev pub Meant : Type 0
Meant =
    (bs : List ℕ) (count n : ℕ) (t : Tree) (s : State)
    → 2 ≤ n → n < count + 2 → Spells t (condition_bytes bs (n - 2)) → book_says bs count n s ≡ meaning t s
