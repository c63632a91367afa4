-- Chains over other records and by other states; what taking grants out leaves.
use Rattle.std.proofs.Common.{◌≡◌, ℕ, ◌≤◌, ◌||◌, ltb, List, [], ◌∷◌, length, sym, refl, ◌∙◌, subst, inl, inr, arith}
use Rattle.std.specs.List.{AllByRecursion}
use Rattle.conditions.specs.declared.truth.Truth.{Truth}
use Rattle.states.specs.declared.state.State.{State}
use Rattle.grants.specs.declared.Grant.{Grant}
use Rattle.states.specs.States.{InRange, ToldMore, kept, names}
use Rattle.conditions.specs.Laws.{Lawful}
use Rattle.conditions.specs.Steady.{true_stays}
use Rattle.states.specs.Parts.{only_less}
use Rattle.chains.specs.Lists.{In}
use Rattle.chains.specs.Chains.{Person, Chain, AllOnward, Valid, Stands, Serves}
use Rattle.chains.specs.Laws.{Rid, recorded}
use Rattle.chains.specs.Words.{Same}

-- a chain over another record
pub chain_on : (r q : List Grant) (h o : ℕ) (c : List Grant) (p : ℕ) → ((g : Grant) → In g c → In g r → In g q) → Chain r h o c p → Chain q h o c p
chain_on r q h o [] p f x = x
chain_on r q h o (g ∷ c) p f x = (f g (inl refl) x.0, x.1, x.2, x.3, chain_on r q h o c g.grantor (λ b i. f b (inr i)) x.4)

pub chain_owner : (r : List Grant) (h o : ℕ) (c : List Grant) (p : ℕ) → Chain r h o c p → Person o
chain_owner r h o [] p x = x.1
chain_owner r h o (g ∷ c) p x = chain_owner r h o c g.grantor x.4

pub chain_in : (r : List Grant) (h o : ℕ) (c : List Grant) (p : ℕ) → Chain r h o c p → (g : Grant) → In g c → In g r
chain_in r h o [] p x g i = absurd i
chain_in r h o (b ∷ c) p x g (inl e) = subst (λ b. In b r) e x.0
chain_in r h o (b ∷ c) p x g (inr i) = chain_in r h o c b.grantor x.4 g i

-- whom neither the owner nor a grant reaches, nobody is
ends_elsewhere : (r : List Grant) (h o : ℕ) (c : List Grant) (p q : ℕ) → (p ≡ o → ⊥) → AllByRecursion (λ (b : Grant). b.grantee ≡ p → ⊥) c → Chain r h o c q → q ≡ p → ⊥
ends_elsewhere r h o [] p q n a x e = n (sym e ∙ x.0)
ends_elsewhere r h o (b ∷ c) p q n a x e = a.0 (x.2 ∙ e)

gives_none : (r : List Grant) (h o : ℕ) (c : List Grant) (p q : ℕ) → (p ≡ o → ⊥) → AllByRecursion (λ (b : Grant). b.grantee ≡ p → ⊥) c → Chain r h o c q → AllByRecursion (λ (b : Grant). b.grantor ≡ p → ⊥) c
gives_none r h o [] p q n a x = tt
gives_none r h o (b ∷ c) p q n a x = (ends_elsewhere r h o c p b.grantor n a.1 x.4, gives_none r h o c p b.grantor n a.1 x.4)

pub not_own : (r : List Grant) (h o : ℕ) (c : List Grant) (p : ℕ) → Chain r h o c p → AllByRecursion (λ (g : Grant). g.grantor ≡ p → ⊥) c
not_own r h o [] p x = tt
not_own r h o (g ∷ c) p x = (ends_elsewhere r h o c p g.grantor x.3.0 x.3.1 x.4, gives_none r h o c p g.grantor x.3.0 x.3.1 x.4)

-- by states that are told more
module _ {count : ℕ} {means : ℕ → State → Truth} (lawful : Lawful count means) where
  onward_more : (s t : State) → InRange t → ToldMore s t → (c : List Grant) → AllOnward means c s → AllOnward means c t
  onward_more s t range more [] a = tt
  onward_more s t range more (g ∷ c) a = (true_stays (lawful.steady g.onward s t range more) a.0, onward_more s t range more c a.1)

  pub valid_more : (st su : Grant → State) (c : List Grant) → AllByRecursion (λ (g : Grant). InRange (su g) × ToldMore (st g) (su g)) c → Valid means st c → Valid means su c
  valid_more st su [] m v = tt
  valid_more st su (g ∷ c) m v = (valid_more st su c m.1 v.0, onward_more (st g) (su g) m.0.0 m.0.1 c v.1)

told : (set : ℕ) (c : List Grant) → AllByRecursion (λ (g : Grant). InRange g.state) c → AllByRecursion (λ (g : Grant). InRange g.state × ToldMore (kept set g.state) g.state) c
told set [] a = tt
told set (g ∷ c) a = ((a.0, only_less (λ v. ltb v 2 || names set v) g.state), told set c a.1)

pub kept_then_whole : (count : ℕ) (means : ℕ → State → Truth) → Lawful count means → (set : ℕ) (c : List Grant) → AllByRecursion (λ (g : Grant). InRange g.state) c → Valid means (λ g. kept set g.state) c → Valid means recorded c
kept_then_whole count means lawful set c range v = valid_more lawful (λ g. kept set g.state) recorded c (told set c range) v

module _ (means : ℕ → State → Truth) (st : Grant → State) (own : ℕ → ℕ) where
  -- each grant of a valid chain stands
  pub chain_stands : (r : List Grant) (h p : ℕ) (c : List Grant) → Chain r h (own h) c p → Valid means st c → length c ≤ 8 → (g : Grant) → In g c → Stands means st r own g
  chain_stands r h p [] x v l g i = absurd i
  chain_stands r h p (b ∷ c) x v l g (inl e) = subst (Stands means st r own) e (c, (subst (λ k. Chain r k (own k) c b.grantor) (sym x.1) x.4, omega arith, v))
  chain_stands r h p (b ∷ c) x v l g (inr i) = chain_stands r h b.grantor c x.4 v.0 (omega arith) g i

  module _ (r q : List Grant) (rid : Rid means st own r q) where
    to_rid : (h p : ℕ) (c : List Grant) → Chain r h (own h) c p → Valid means st c → length c ≤ 8 → Chain q h (own h) c p
    to_rid h p c x v l = chain_on r q h (own h) c p (λ g i j. rid.keeps g j (chain_stands r h p c x v l g i)) x

    from_rid : (h p : ℕ) (c : List Grant) → Chain q h (own h) c p → Chain r h (own h) c p
    from_rid h p c x = chain_on q r h (own h) c p (λ g i j. rid.part g j) x

    pub same_standing : (g : Grant) → Same (Stands means st r own g) (Stands means st q own g)
    same_standing g = (
      λ s. let l = s.1.1 in (s.0, (to_rid g.hook g.grantor s.0 s.1.0 s.1.2.0 (omega arith), s.1.1, s.1.2)),
      λ s. (s.0, (from_rid g.hook g.grantor s.0 s.1.0, s.1.1, s.1.2)),
    )

    pub same_serving : (h p : ℕ) (s : State) (c : List Grant) → Same (Serves means st r h (own h) p s c) (Serves means st q h (own h) p s c)
    same_serving h p s c = (λ x. (to_rid h p c x.0 x.2.0 x.1, x.1, x.2), λ x. (from_rid h p c x.0, x.1, x.2))
