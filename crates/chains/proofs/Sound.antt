-- The listed chains are just the valid ones, in order; standing and the least chain are decided by them.
use Rattle.std.proofs.Common.{◌≡◌, ℕ, zero, suc, ◌+◌, ◌<◌, ◌≤◌, Bool, true, false, cond, not, ◌&&◌, eqb, leb, List, [], ◌∷◌, map, length, Some, None, Decides, sym, refl, ap, ◌∙◌, subst, inl, inr, ⊎_elim, arith}
use Rattle.std.specs.List.{AllByRecursion}
use Rattle.std.proofs.lemmas.Bool.{true≢false, and_parts, and_from, le-leb, leb-true, eq-eqb, eqb-true}
use Rattle.std.proofs.lemmas.Bool.Decides.{Decides-eqb, Decides-not, Decides-and}
use Rattle.conditions.specs.declared.truth.Truth.{Truth}
use Rattle.conditions.specs.declared.truth.Truth.TheVariants.{True, False, Unknown}
use Rattle.states.specs.declared.state.State.{State}
use Rattle.grants.specs.declared.Grant.{Grant}
use Rattle.conditions.specs.Truths.{is_true}
use Rattle.chains.specs.Lists.{In, Sorted, keep_if}
use Rattle.chains.specs.Chains.{Person, Chain, AllOnward, AllExecute, Valid, Stands, Supports, Serves}
use Rattle.chains.specs.Order.{Lower, Before, Rising, Least}
use Rattle.chains.specs.Laws.{Holds}
use Rattle.chains.specs.Search.{is_person, is_sound, leads_to, end, onward_true, execute_true, follows, grow, start, more, chains, supports, serves, stands, least_chain}
use Rattle.chains.proofs.Lists.{in_append, in_left, in_right, all_in, in_all, keep_in, in_keep, any_in, in_any, decides_all, find_none, find_some, sorted_append, sorted_keep, map_in, in_map, sorted_map}

-- g may follow c
module _ (means : ℕ → State → Truth) (st : Grant → State) where
  abbrev pub Follows : ℕ → ℕ → List Grant → Grant → Type 0
  Follows h o c g = (g.hook ≡ h) × ((g.grantor ≡ end o c) × ((g.grantee ≡ o → ⊥) × (AllByRecursion (λ (b : Grant). b.grantee ≡ g.grantee → ⊥) c × AllOnward means c (st g))))

pub decides_is_true : (t : Truth) → Decides (is_true t) (t ≡ True)
decides_is_true True = (λ _. refl, λ _. refl)
decides_is_true False = (λ h. absurd (true≢false (sym h)), λ h. let z : ◌≡◌ {A = ℕ} 0 1 = cc h in absurd (omega (arith, z)))
decides_is_true Unknown = (λ h. absurd (true≢false (sym h)), λ h. let z : ◌≡◌ {A = ℕ} 0 1 = cc h in absurd (omega (arith, z)))

pub decides_person : (p : ℕ) → Decides (is_person p) (Person p)
decides_person p = Decides-and (leb 1 p) (leb p 200) (leb-true 1 p, le-leb 1 p) (leb-true p 200, le-leb p 200)

pub chain_end : (r : List Grant) (h o : ℕ) (c : List Grant) (p : ℕ) → Chain r h o c p → p ≡ end o c
chain_end r h o [] p x = x.0
chain_end r h o (g ∷ c) p x = sym x.2

module _ (means : ℕ → State → Truth) where
  pub decides_onward : (c : List Grant) (s : State) → Decides (onward_true means c s) (AllOnward means c s)
  decides_onward c s = decides_all (λ (k : Grant). is_true (means k.onward s)) (λ (k : Grant). means k.onward s ≡ True) (λ k. decides_is_true (means k.onward s)) c

  pub decides_execute : (c : List Grant) (s : State) → Decides (execute_true means c s) (AllExecute means c s)
  decides_execute c s = decides_all (λ (k : Grant). is_true (means k.execute s)) (λ (k : Grant). means k.execute s ≡ True) (λ k. decides_is_true (means k.execute s)) c

  module _ (st : Grant → State) where
    pub decides_follows : (h o : ℕ) (c : List Grant) (g : Grant) → Decides (follows means st h o c g) (Follows means st h o c g)
    decides_follows h o c g =
        Decides-and _ _ (Decides-eqb g.hook h)
        (Decides-and _ _ (Decides-eqb g.grantor (end o c))
        (Decides-and _ _ (Decides-not _ (Decides-eqb g.grantee o))
        (Decides-and _ _ (decides_all (λ (b : Grant). not (eqb b.grantee g.grantee)) (λ (b : Grant). b.grantee ≡ g.grantee → ⊥) (λ b. Decides-not _ (Decides-eqb b.grantee g.grantee)) c)
        (decides_onward c (st g)))))

    -- a valid chain to somebody
    abbrev pub Sound : List Grant → ℕ → ℕ → List Grant → Type 0
    Sound r h o c = Chain r h o c (end o c) × Valid means st c

    pub sound_more : (r : List Grant) (h o : ℕ) (c : List Grant) (g : Grant) → Sound r h o c → In g r → Follows means st h o c g → Sound r h o (g ∷ c)
    sound_more r h o c g s i f = ((i, f.0, refl, (f.1.1.0, f.1.1.1.0), subst (Chain r h o c) (sym f.1.0) s.0), (s.1, f.1.1.1.1))

    pub sound_less : (r : List Grant) (h o : ℕ) (c : List Grant) (g : Grant) → Sound r h o (g ∷ c) → Sound r h o c × In g r × Follows means st h o c g
    sound_less r h o c g s =
        let e = chain_end r h o c g.grantor s.0.4 in
        ((subst (Chain r h o c) e s.0.4, s.1.0), s.0.0, (s.0.1, (e, (s.0.3.0, (s.0.3.1, s.1.1)))))

    pub decides_sound : (r : List Grant) (h o : ℕ) (c : List Grant) → Holds r c → Decides (is_sound means st h o c) (Sound r h o c)
    decides_sound r h o [] all = (λ e. ((refl, (decides_person o).0 e), tt), λ s. (decides_person o).1 s.0.1)
    decides_sound r h o (g ∷ c) all =
        let below = decides_sound r h o c (λ b i. all b (inr i)) in (
          λ e. let t = and_parts (follows means st h o c g) (is_sound means st h o c) e in
              sound_more r h o c g (below.0 t.1) (all g (inl refl)) ((decides_follows h o c g).0 t.0),
          λ s. let x = sound_less r h o c g s in and_from (follows means st h o c g) (is_sound means st h o c) ((decides_follows h o c g).1 x.2) (below.1 x.0),
        )

    -- the test of a given chain: at most `most` grants, valid, to p
    abbrev pub Leads : List Grant → ℕ → ℕ → ℕ → ℕ → List Grant → Type 0
    Leads r h o p most c = Chain r h o c p × (length c ≤ most) × Valid means st c

    pub decides_leads : (r : List Grant) (h o p most : ℕ) (c : List Grant) → Holds r c → Decides (leads_to means st h o p most c) (Leads r h o p most c)
    decides_leads r h o p most c all =
        let d = decides_sound r h o c all in (
          λ e.
              let t = and_parts (leb (length c) most) (is_sound means st h o c && eqb (end o c) p) e in
              let u = and_parts (is_sound means st h o c) (eqb (end o c) p) t.1 in
              let s = d.0 u.0 in
              (subst (Chain r h o c) (eqb-true (end o c) p u.1) s.0, leb-true (length c) most t.0, s.1),
          λ x.
              let e = chain_end r h o c p x.0 in
              and_from (leb (length c) most) (is_sound means st h o c && eqb (end o c) p) (le-leb (length c) most x.1)
              (and_from (is_sound means st h o c) (eqb (end o c) p) (d.1 (subst (Chain r h o c) e x.0, x.2)) (eq-eqb (end o c) p (sym e))),
        )

    pub decides_serves : (r : List Grant) (h o p : ℕ) (s : State) (c : List Grant) → Holds r c → Decides (leads_to means st h o p 8 c && execute_true means c s) (Serves means st r h o p s c)
    decides_serves r h o p s c all =
        let d = Decides-and _ _ (decides_leads r h o p 8 c all) (decides_execute c s) in
        (λ e. let x = d.0 e in (x.0.0, x.0.1, (x.0.2, x.1)), λ x. d.1 ((x.0, x.1, x.2.0), x.2.1))

    pub decides_supports : (r : List Grant) (own : ℕ → ℕ) (g : Grant) (c : List Grant) → Holds r c
        → Decides (leads_to means st g.hook (own g.hook) g.grantor 7 c && onward_true means c (st g)) (Supports means st r own g c)
    decides_supports r own g c all =
        let d = Decides-and _ _ (decides_leads r g.hook (own g.hook) g.grantor 7 c all) (decides_onward c (st g)) in
        (λ e. let x = d.0 e in (x.0.0, x.0.1, (x.0.2, x.1)), λ x. d.1 ((x.0, x.1, x.2.0), x.2.1))

    module _ (r : List Grant) (h o : ℕ) where
      pub in_grow : (cs : List (List Grant)) (d : List Grant) → In d (grow means st r h o cs) → (c : List Grant) × (g : Grant) × In c cs × In g r × (follows means st h o c g ≡ true) × (g ∷ c ≡ d)
      in_grow [] d i = absurd i
      in_grow (c ∷ cs) d i =
          ⊎_elim
          (λ j. let m = map_in (λ g. g ∷ c) (keep_if (follows means st h o c) r) d j in let k = keep_in (follows means st h o c) r m.0 m.1 in (c, m.0, inl refl, k.0, k.1, m.2))
          (λ j. let k = in_grow cs d j in (k.0, k.1, inr k.2, k.3, k.4, k.5))
          (in_append d (map (λ g. g ∷ c) (keep_if (follows means st h o c) r)) (grow means st r h o cs) i)

      pub grow_in : (cs : List (List Grant)) (c : List Grant) (g : Grant) → In c cs → In g r → follows means st h o c g ≡ true → In (g ∷ c) (grow means st r h o cs)
      grow_in [] c g i j e = absurd i
      grow_in (b ∷ cs) c g (inl i) j e = in_left (g ∷ c) (map (λ g. g ∷ b) (keep_if (follows means st h o b) r)) (grow means st r h o cs) (subst (λ d. In (g ∷ c) (map (λ g. g ∷ d) (keep_if (follows means st h o d) r))) (sym i) (in_map (λ g. g ∷ c) (keep_if (follows means st h o c) r) g (in_keep (follows means st h o c) r g j e)))
      grow_in (b ∷ cs) c g (inr i) j e = in_right (g ∷ c) (map (λ g. g ∷ b) (keep_if (follows means st h o b) r)) (grow means st r h o cs) (grow_in cs c g i j e)

      -- what every list of one length keeps
      abbrev pub Level : ℕ → List (List Grant) → Type 0
      Level k cs = (c : List Grant) → In c cs → Sound r h o c × (length c ≡ k)

      pub level_grow : (k : ℕ) (cs : List (List Grant)) → Level k cs → Level (suc k) (grow means st r h o cs)
      level_grow k cs l d i =
          let x = in_grow cs d i in
          let s = l x.0 x.2 in
          (subst (Sound r h o) x.5 (sound_more r h o x.0 x.1 s.0 x.3 ((decides_follows h o x.0 x.1).0 x.4)), sym (ap length x.5) ∙ ap suc s.1)

      pub sound_all : (n k : ℕ) (cs : List (List Grant)) → Level k cs → (c : List Grant) → In c (more means st r h o n cs) → Sound r h o c × (k ≤ length c) × (length c ≤ k + n)
      sound_all zero k cs l c i = let x = l c i in let e = x.1 in (x.0, omega arith, omega arith)
      sound_all (suc n) k cs l c i =
          ⊎_elim
          (λ j. let x = l c j in let e = x.1 in (x.0, omega arith, omega arith))
          (λ j. let x = sound_all n (suc k) (grow means st r h o cs) (level_grow k cs l) c j in (x.0, omega (arith, x.1), omega (arith, x.2)))
          (in_append c cs (more means st r h o n (grow means st r h o cs)) i)

      pub level_start : Level 0 (start means st r h o)
      level_start c i = go (is_person o) refl i
        where
          go : (b : Bool) → is_person o ≡ b → In c (cond b ([] ∷ []) []) → Sound r h o c × (length c ≡ 0)
          go true e (inl j) = (subst (Sound r h o) j ((refl, (decides_person o).0 e), tt), sym (ap length j))
          go true e (inr j) = absurd j
          go false e j = absurd j

      abbrev iter : ℕ → List (List Grant) → List (List Grant)
      iter zero cs = cs
      iter (suc n) cs = iter n (grow means st r h o cs)

      iter_grow : (n : ℕ) (cs : List (List Grant)) → grow means st r h o (iter n cs) ≡ iter n (grow means st r h o cs)
      iter_grow zero cs = refl
      iter_grow (suc n) cs = iter_grow n (grow means st r h o cs)

      iter_more : (n j : ℕ) (cs : List (List Grant)) → j ≤ n → (c : List Grant) → In c (iter j cs) → In c (more means st r h o n cs)
      iter_more zero zero cs l c i = i
      iter_more zero (suc j) cs l c i = absurd (omega arith)
      iter_more (suc n) zero cs l c i = in_left c cs (more means st r h o n (grow means st r h o cs)) i
      iter_more (suc n) (suc j) cs l c i = in_right c cs (more means st r h o n (grow means st r h o cs)) (iter_more n j (grow means st r h o cs) (omega arith) c i)

      sound_iter : (c : List Grant) → Sound r h o c → In c (iter (length c) (start means st r h o))
      sound_iter [] s = subst (λ b. In {X = List Grant} [] (cond b ([] ∷ []) [])) (sym ((decides_person o).1 s.0.1)) (inl refl)
      sound_iter (g ∷ c) s =
          let x = sound_less r h o c g s in
          subst (In (g ∷ c)) (iter_grow (length c) (start means st r h o)) (grow_in (iter (length c) (start means st r h o)) c g (sound_iter c x.0) x.1 ((decides_follows h o c g).1 x.2))

      -- `chains n` has exactly the valid chains of at most n grants
      pub chains_sound : (n : ℕ) (c : List Grant) → In c (chains means st r h o n) → Sound r h o c × (length c ≤ n)
      chains_sound n c i = let x = sound_all n 0 (start means st r h o) level_start c i in (x.0, omega (arith, x.2))

      pub chains_complete : (n : ℕ) (c : List Grant) → Sound r h o c → length c ≤ n → In c (chains means st r h o n)
      chains_complete n c s l = iter_more n (length c) (start means st r h o) l c (sound_iter c s)

      -- and they stand in order
      pub grow_sorted : Rising r → (cs : List (List Grant)) → Sorted Lower cs → Sorted Lower (grow means st r h o cs)
      grow_sorted up [] s = tt
      grow_sorted up (c ∷ cs) s =
          sorted_append Lower (map (λ g. g ∷ c) (keep_if (follows means st h o c) r)) (grow means st r h o cs)
          (sorted_map (λ (a b : Grant). a.number < b.number) Lower (λ g. g ∷ c) (λ a b l. inr (refl, l)) (keep_if (follows means st h o c) r) (sorted_keep (λ (a b : Grant). a.number < b.number) (follows means st h o c) r up))
          (grow_sorted up cs s.1)
          (λ x y i j.
          let m = map_in (λ g. g ∷ c) (keep_if (follows means st h o c) r) x i in
          let k = in_grow cs y j in
          subst (λ u. Lower u y) m.2 (subst (Lower (m.0 ∷ c)) k.5 (inl (all_in (Lower c) cs s.0 k.0 k.2))))

      same_length_sorted : (k : ℕ) (cs : List (List Grant)) → ((c : List Grant) → In c cs → length c ≡ k) → Sorted Lower cs → Sorted Before cs
      same_length_sorted k [] l s = tt
      same_length_sorted k (c ∷ cs) l s = (in_all (Before c) cs (λ d i. inr (l c (inl refl) ∙ sym (l d (inr i)), all_in (Lower c) cs s.0 d i)), same_length_sorted k cs (λ d i. l d (inr i)) s.1)

      more_sorted : Rising r → (n k : ℕ) (cs : List (List Grant)) → Level k cs → Sorted Lower cs → Sorted Before (more means st r h o n cs)
      more_sorted up zero k cs l s = same_length_sorted k cs (λ c i. (l c i).1) s
      more_sorted up (suc n) k cs l s =
          sorted_append Before cs (more means st r h o n (grow means st r h o cs)) (same_length_sorted k cs (λ c i. (l c i).1) s)
          (more_sorted up n (suc k) (grow means st r h o cs) (level_grow k cs l) (grow_sorted up cs s))
          (λ x y i j. let e = (l x i).1 in let y = sound_all n (suc k) (grow means st r h o cs) (level_grow k cs l) y j in inl (omega (arith, e, y.1)))

      pub chains_sorted : Rising r → (n : ℕ) → Sorted Before (chains means st r h o n)
      chains_sorted up n = more_sorted up n 0 (start means st r h o) level_start (go (is_person o))
        where
          go : (b : Bool) → Sorted Lower (cond b ([] ∷ []) [])
          go true = (tt, tt)
          go false = tt

    -- the test decides standing
    pub decides_stands : (r : List Grant) (owner : ℕ → ℕ) (g : Grant) → Decides (stands means st r owner g) (Stands means st r owner g)
    decides_stands r owner g =
        let h = g.hook in
        let o = owner g.hook in (
          λ e.
              let x = any_in (supports means st o g) (chains means st r h o 7) e in
              let c = x.0 in
              let s = chains_sound r h o 7 c x.1 in
              let t = and_parts (eqb (end o c) g.grantor) (onward_true means c (st g)) x.2 in
              (c, (subst (Chain r h o c) (eqb-true (end o c) g.grantor t.0) s.0.0, s.1, (s.0.1, (decides_onward c (st g)).0 t.1))),
          λ s.
              let c = s.0 in
              let e = chain_end r h o c g.grantor s.1.0 in
              in_any (supports means st o g) (chains means st r h o 7) c
              (chains_complete r h o 7 c (subst (Chain r h o c) e s.1.0, s.1.2.0) s.1.1)
              (and_from (eqb (end o c) g.grantor) (onward_true means c (st g)) (eq-eqb (end o c) g.grantor (sym e)) ((decides_onward c (st g)).1 s.1.2.1)),
        )

    serves_in : (r : List Grant) (h o p : ℕ) (s : State) (c : List Grant) → Serves means st r h o p s c → In c (chains means st r h o 8) × (serves means st o p s c ≡ true)
    serves_in r h o p s c x =
        let e = chain_end r h o c p x.0 in (
          chains_complete r h o 8 c (subst (Chain r h o c) e x.0, x.2.0) x.1,
          and_from (eqb (end o c) p) (execute_true means c s) (eq-eqb (end o c) p (sym e)) ((decides_execute c s).1 x.2.1),
        )

    in_serves : (r : List Grant) (h o p : ℕ) (s : State) (c : List Grant) → In c (chains means st r h o 8) → serves means st o p s c ≡ true → Serves means st r h o p s c
    in_serves r h o p s c i e =
        let x = chains_sound r h o 8 c i in
        let t = and_parts (eqb (end o c) p) (execute_true means c s) e in
        (subst (Chain r h o c) (eqb-true (end o c) p t.0) x.0.0, x.1, (x.0.1, (decides_execute c s).0 t.1))

    -- none is least_chain exactly when none serves, and the least_chain one is the least
    pub chosen_none : (r : List Grant) (h o p : ℕ) (s : State) → least_chain means st r h o p s ≡ None → (c : List Grant) → Serves means st r h o p s c → ⊥
    chosen_none r h o p s e c x = let y = serves_in r h o p s c x in find_none (serves means st o p s) (chains means st r h o 8) e c y.0 y.1

    pub chosen_some : (r : List Grant) (h o p : ℕ) (s : State) (c : List Grant) → Rising r → least_chain means st r h o p s ≡ Some c → Least means st r h o p s c
    chosen_some r h o p s c up e =
        let f = find_some Before (serves means st o p s) (chains means st r h o 8) c (chains_sorted r h o up 8) e in
        (in_serves r h o p s c f.0 f.1, λ d x. let y = serves_in r h o p s d x in f.2 d y.0 y.1)

    sorted_any : {X : Type 0} (xs : List X) → Sorted (λ (a b : X). Unit {0}) xs
    sorted_any [] = tt
    sorted_any {X} (x ∷ xs) = (in_all (λ (b : X). Unit {0}) xs (λ _ _. tt), sorted_any xs)

    pub chosen_serves : (r : List Grant) (h o p : ℕ) (s : State) (c : List Grant) → least_chain means st r h o p s ≡ Some c → Serves means st r h o p s c
    chosen_serves r h o p s c e =
        let f = find_some (λ (a b : List Grant). Unit {0}) (serves means st o p s) (chains means st r h o 8) c (sorted_any (chains means st r h o 8)) e in
        in_serves r h o p s c f.0 f.1
