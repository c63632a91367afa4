-- Laws of sets of places.
use Rattle.std.proofs.Common.{◌≡◌, ℕ, zero, suc, ◌+◌, ◌%◌, ◌^◌, ◌<◌, ◌≤◌, Bool, true, false, not, ◌&&◌, ◌||◌, min, max, eqb, ltb, sym, refl, ap, ◌∙◌, subst, ⊎_elim, arith, below_more}
use lib.Bits.{bit_and, bit_or, bit_xor, and_self, xor_add_and}
use Rattle.std.proofs.lemmas.Nat.{and_assoc}
use Rattle.std.proofs.lemmas.Nat.Bits.{bit_at-lt, bit_at_and, bit_at_or, bit_at_xor, bit_at-zero, bit_at-pow_same, bit_at-pow_other, bit_at_above}
use Rattle.std.specs.Int.{bit_at}
use Rattle.std.proofs.lemmas.Bool.{and_from, both_ways, eq-eqb, ne_eqb, lt-ltb, cases_eq}
use Rattle.places.specs.Sets.{member}

-- what holds of the four pairs of bits holds of all
by_bits : (P : ℕ → ℕ → Type 0) → P 0 0 → P 0 1 → P 1 0 → P 1 1 → (u v : ℕ) → u < 2 → v < 2 → P u v
by_bits P a b c d zero zero h k = a
by_bits P a b c d zero (suc zero) h k = b
by_bits P a b c d (suc zero) zero h k = c
by_bits P a b c d (suc zero) (suc zero) h k = d
by_bits P a b c d (suc (suc u)) v h k = absurd (omega arith)
by_bits P a b c d zero (suc (suc v)) h k = absurd (omega arith)
by_bits P a b c d (suc zero) (suc (suc v)) h k = absurd (omega arith)

pub member_and : (a b i : ℕ) → member (bit_and a b) i ≡ (member a i && member b i)
member_and a b i =
    ap (λ z. eqb z 1) (bit_at_and a b i)
    ∙ by_bits (λ u v. eqb (min u v) 1 ≡ (eqb u 1 && eqb v 1)) refl refl refl refl (bit_at a i) (bit_at b i) (bit_at-lt a i) (bit_at-lt b i)

pub member_or : (a b i : ℕ) → member (bit_or a b) i ≡ (member a i || member b i)
member_or a b i =
    ap (λ z. eqb z 1) (bit_at_or a b i)
    ∙ by_bits (λ u v. eqb (max u v) 1 ≡ (eqb u 1 || eqb v 1)) refl refl refl refl (bit_at a i) (bit_at b i) (bit_at-lt a i) (bit_at-lt b i)

pub member_without : (a b i : ℕ) → member (bit_xor a (bit_and a b)) i ≡ (member a i && not (member b i))
member_without a b i =
    ap (λ z. eqb z 1) (bit_at_xor a (bit_and a b) i ∙ ap (λ m. (bit_at a i + m) % 2) (bit_at_and a b i))
    ∙ by_bits (λ u v. eqb ((u + min u v) % 2) 1 ≡ (eqb u 1 && not (eqb v 1))) refl refl refl refl (bit_at a i) (bit_at b i) (bit_at-lt a i) (bit_at-lt b i)

pub member_zero : (i : ℕ) → member 0 i ≡ false
member_zero i = ap (λ z. eqb z 1) (bit_at-zero i)

member_one : (j i : ℕ) → member (2 ^ j) i ≡ eqb i j
member_one j i =
    ⊎_elim
    (λ same. ap (λ k. member (2 ^ j) k) same ∙ ap (λ z. eqb z 1) (bit_at-pow_same j) ∙ sym (eq-eqb i j same))
    (λ ne. ap (λ z. eqb z 1) (bit_at-pow_other j i ne) ∙ sym (ne_eqb i j ne))
    (cases_eq i j)

pub with_one : (s j k : ℕ) → member (bit_or s (2 ^ j)) k ≡ (member s k || eqb k j)
with_one s j k = member_or s (2 ^ j) k ∙ ap (λ b. member s k || b) (member_one j k)

pub member_high : (s k j : ℕ) → s < 2 ^ k → k ≤ j → member s j ≡ false
member_high s k j lt le = ap (λ z. eqb z 1) (bit_at_above s k j lt le)

and_false : (b : Bool) → (b && false) ≡ false
and_false true = refl
and_false false = refl

or_false : (b : Bool) → (b || false) ≡ b
or_false true = refl
or_false false = refl

or_true : (b : Bool) → (b || true) ≡ true
or_true true = refl
or_true false = refl

-- a set with place i, read at another place and there
pub added_other : (s t i k : ℕ) (b : Bool) → member t k ≡ (member s k || (b && eqb k i)) → (k ≡ i → ⊥) → member t k ≡ member s k
added_other s t i k b e ne = e ∙ ap (λ x. member s k || (b && x)) (ne_eqb k i ne) ∙ ap (λ x. member s k || x) (and_false b) ∙ or_false (member s k)

pub added_same : (s t i : ℕ) → i < 128 → member t i ≡ (member s i || (ltb i 128 && eqb i i)) → member t i ≡ true
added_same s t i low e = e ∙ ap (λ x. member s i || (x && eqb i i)) (lt-ltb i 128 low) ∙ ap (λ x. member s i || x) (eq-eqb i i refl) ∙ or_true (member s i)

-- where each place below i is in the set just if P holds of it and true, and none from i on
module _ (P : ℕ → Bool → Type 0) where
  abbrev pub Chosen : ℕ → ℕ → Type 0
  Chosen s i = ((k : ℕ) → k < i → k < 128 → P k (member s k)) × ((k : ℕ) → i ≤ k → member s k ≡ false)

  pub chosen_out : (s i : ℕ) → Chosen s i → P i false → Chosen s (i + 1)
  chosen_out s i h p = (
    below_more (λ k. k < 128 → P k (member s k)) i h.0 (λ low. subst (P i) (sym (h.1 i (omega arith))) p),
    λ k le. h.1 k (omega arith),
  )

  pub chosen_in : (s t i : ℕ) → Chosen s i → ((k : ℕ) → member t k ≡ (member s k || (ltb i 128 && eqb k i))) → P i true → Chosen t (i + 1)
  chosen_in s t i h e p = (
    below_more (λ k. k < 128 → P k (member t k)) i
        (λ k lt low. subst (P k) (sym (added_other s t i k (ltb i 128) (e k) (λ q. omega arith))) (h.0 k lt low))
        (λ low. subst (P i) (sym (added_same s t i low (e i))) p),
    λ k le. added_other s t i k (ltb i 128) (e k) (λ q. omega arith) ∙ h.1 k (omega arith),
  )

-- a set without a place that it had is smaller, as a number
pub smaller : (s p i : ℕ) → member s i ≡ true → member p i ≡ true → bit_xor s (bit_and s p) < s
smaller s p i here there =
    let m = bit_and s p in
    let both : member m i ≡ true = member_and s p i ∙ and_from _ _ here there in
    let some : m ≡ 0 → ⊥ = λ e. both_ways (member 0 i) (member_zero i) (sym (ap (λ z. member z i) e) ∙ both) in
    let again : bit_and s m ≡ m = sym (and_assoc p s s) ∙ ap (λ z. bit_and z p) (and_self s) in
    omega (arith, xor_add_and s m, again, some)
