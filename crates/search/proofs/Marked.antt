-- One place more of a set that decides, or of one whose places are not reached.
use Rattle.std.proofs.Common.{◌≡◌, ℕ, ◌+◌, ◌<◌, true, ◌&&◌, ◌||◌, eqb, ltb, Decides, sym, ◌∙◌, subst, ⊎_elim, arith, below_more}
use Rattle.std.proofs.lemmas.Bool.{both_ways, cases_eq}
use Rattle.places.specs.Sets.{member}
use Rattle.places.proofs.Members.{member_zero, added_other, added_same}
use Rattle.search.specs.Asked.{DecidedTo}

-- t is s with place j
abbrev pub With : ℕ → ℕ → ℕ → Type 0
With s j t = (k : ℕ) → member t k ≡ (member s k || (ltb j 128 && eqb k j))

pub decided_in : (R : ℕ → Type 0) (s t j : ℕ) → j < 128 → With s j t → DecidedTo R s j → R j → DecidedTo R t (j + 1)
decided_in R s t j low e d here = (
  below_more (λ k. Decides (member t k) (R k)) j
      (λ k l. subst (λ b. Decides b (R k)) (sym (added_other s t j k (ltb j 128) (e k) (λ q. omega arith))) (d.0 k l))
      (λ _. here, λ _. added_same s t j low (e j)),
  λ k le. added_other s t j k (ltb j 128) (e k) (λ q. omega arith) ∙ d.1 k (omega arith),
)

pub decided_out : (R : ℕ → Type 0) (s j : ℕ) → DecidedTo R s j → (R j → ⊥) → DecidedTo R s (j + 1)
decided_out R s j d no' = (
  below_more (λ k. Decides (member s k) (R k)) j d.0 (λ e. absurd (both_ways (member s j) (d.1 j (omega arith)) e), λ x. absurd (no' x)),
  λ k le. d.1 k (omega arith),
)

pub decided_none : (R : ℕ → Type 0) → DecidedTo R 0 0
decided_none R = (λ k lt. absurd (omega arith), λ k _. member_zero k)

-- one place more of which R is not true
pub rests_more : (R : ℕ → Type 0) (s t j : ℕ) → With s j t → ((k : ℕ) → member s k ≡ true → R k → ⊥) → (R j → ⊥) → (k : ℕ) → member t k ≡ true → R k → ⊥
rests_more R s t j e rests here k m =
    ⊎_elim (λ q. subst (λ z. R z → ⊥) (sym q) here) (λ ne. rests k (sym (added_other s t j k (ltb j 128) (e k) ne) ∙ m)) (cases_eq k j)
