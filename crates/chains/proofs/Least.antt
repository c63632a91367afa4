-- The least chain that serves is one, and the one that a draw names.
use Rattle.std.proofs.Common.{◌≡◌, ℕ, List, [], ◌∷◌, Some, None, Option, sym, refl, ap, subst, inl, inr, ⊎_elim, arith}
use Rattle.conditions.specs.declared.truth.Truth.{Truth}
use Rattle.states.specs.declared.state.State.{State}
use Rattle.grants.specs.declared.Grant.{Grant}
use Rattle.chains.specs.Chains.{Serves}
use Rattle.chains.specs.Order.{Lower, Before, Rising, Least}
use Rattle.chains.specs.Search.{least_chain}
use Rattle.chains.proofs.Sound.{chosen_none, chosen_some, chosen_serves}

-- the order has no loops
lower_not_itself : (c : List Grant) → Lower c c → ⊥
lower_not_itself [] l = l
lower_not_itself (g ∷ c) (inl l) = lower_not_itself c l
lower_not_itself (g ∷ c) (inr l) = let k = l.1 in omega arith

lower_one_way : (c d : List Grant) → Lower c d → Lower d c → ⊥
lower_one_way [] [] l m = l
lower_one_way [] (g ∷ d) l m = l
lower_one_way (g ∷ c) [] l m = l
lower_one_way (g ∷ c) (k ∷ d) (inl l) (inl m) = lower_one_way c d l m
lower_one_way (g ∷ c) (k ∷ d) (inl l) (inr m) = lower_not_itself c (subst (Lower c) m.0 l)
lower_one_way (g ∷ c) (k ∷ d) (inr l) (inl m) = lower_not_itself d (subst (Lower d) l.0 m)
lower_one_way (g ∷ c) (k ∷ d) (inr l) (inr m) = let a = l.1 in let b = m.1 in omega arith

before_one_way : (c d : List Grant) → Before c d → Before d c → ⊥
before_one_way c d (inl l) (inl m) = omega arith
before_one_way c d (inl l) (inr m) = let e = m.0 in omega arith
before_one_way c d (inr l) (inl m) = let e = l.0 in omega arith
before_one_way c d (inr l) (inr m) = lower_one_way c d l.1 m.1

module _ (means : ℕ → State → Truth) (st : Grant → State) (r : List Grant) (h o p : ℕ) (s : State) where
  pub least_one : (c d : List Grant) → Least means st r h o p s c → Least means st r h o p s d → c ≡ d
  least_one c d x y =
      ⊎_elim (λ e. e) (λ b. ⊎_elim (λ e. sym e) (λ b'. absurd (before_one_way c d b b')) (y.1 c x.0)) (x.1 d y.0)

  pub none_chosen : ((c : List Grant) → Serves means st r h o p s c → ⊥) → least_chain means st r h o p s ≡ None
  none_chosen f = go (least_chain means st r h o p s) refl
    where
      go : (x : Option (List Grant)) → least_chain means st r h o p s ≡ x → x ≡ None
      go None e = refl
      go (Some c) e = absurd (f c (chosen_serves means st r h o p s c e))

  pub least_chosen : Rising r → (c : List Grant) → Least means st r h o p s c → least_chain means st r h o p s ≡ Some c
  least_chosen up c x = go (least_chain means st r h o p s) refl
    where
      go : (y : Option (List Grant)) → least_chain means st r h o p s ≡ y → y ≡ Some c
      go None e = absurd (chosen_none means st r h o p s e c x.0)
      go (Some d) e = ap (λ (z : List Grant). Some z) (least_one d c (chosen_some means st r h o p s d up e) x)
