-- The chains over links are the chains over the record.
use Rattle.std.proofs.Common.{◌≡◌, ℕ, ◌<◌, Bool, true, ◌&&◌, eqb, List, [], ◌∷◌, ◌++◌, length, sym, refl, ap, ◌∙◌, subst}
use Rattle.std.specs.List.{AllByRecursion}
use Rattle.std.proofs.lemmas.Bool.{and_parts, and_from, eqb-true, eq-eqb}
use Rattle.states.specs.declared.state.State.{State}
use Rattle.grants.specs.declared.Grant.{Grant}
use Rattle.conditions.specs.declared.truth.Truth.{Truth}
use Rattle.conditions.specs.declared.truth.Truth.TheVariants.{True}
use Rattle.conditions.specs.Truths.{is_true}
use Rattle.places.specs.Sets.{member}
use Rattle.paths.specs.Chains.{link, Joins, AllIn, Admitted, NoneOf, Apart, reached, Chain as Way}
use Rattle.paths.specs.declared.links.Links.{Links}
use Rattle.chains.specs.Chains.{Person, Chain, Valid, AllOnward}
use Rattle.chains.specs.Laws.{recorded}
use Rattle.chains.proofs.Sound.{decides_is_true}
use Rattle.search.specs.Records.{at}
use Rattle.search.proofs.Places.{at_in, in_at, onto, onto_push, onto_all}
use Rattle.search.proofs.Snoc.{apart_push, all_in_push, joins_push, admitted_push, reached_push, joins_low}

module _ (means : ℕ → State → Truth) (r : List Grant) (l : Links) (a h o : ℕ) (test : Grant → Bool) where
  -- the links are those of the record; the allowed places are those of the hook that pass; and between allowed places, each
  -- row has just the places whose state its grant condition is true of
  pub record Fits : Type 0 where
    pub count : l.count ≡ length r
    pub giver : (i : ℕ) → i < length r → (link l i).giver ≡ (at r i).grantor
    pub taker : (i : ℕ) → i < length r → (link l i).taker ≡ (at r i).grantee
    pub allowed : (i : ℕ) → i < length r → member a i ≡ (eqb (at r i).hook h && test (at r i))
    pub rows : (i j : ℕ) → i < length r → j < length r → member a i ≡ true → member a j ≡ true → member (link l i).row j ≡ is_true (means (at r i).onward (at r j).state)

  module _ (fits : Fits) where
    -- each state of these places makes the grant condition of b true
    abbrev Admits : Grant → List ℕ → Type 0
    Admits b w = AllByRecursion (λ j. means b.onward (at r j).state ≡ True) w

    -- the places of a row that are allowed
    row_admits : (i : ℕ) (w : List ℕ) → i < length r → member a i ≡ true → AllByRecursion (λ j. j < length r) w → AllIn a w → AllIn (link l i).row w → Admits (at r i) w
    row_admits i [] lt m low al ro = tt
    row_admits i (j ∷ w) lt m low al ro = (
      (decides_is_true (means (at r i).onward (at r j).state)).0 (sym (fits.rows i j lt low.0 m al.0) ∙ ro.0),
      row_admits i w lt m low.1 al.1 ro.1,
    )

    -- a sound beginning c to p, and places w that lead on from it
    pub record GoesOn (c : List Grant) (p t : ℕ) (w : List ℕ) : Type 0 where
      pub chain : Chain r h o c p
      pub valid : Valid means recorded c
      pub passes : AllByRecursion (λ (g : Grant). test g ≡ true) c
      pub joins : Joins l p w t
      pub low : AllByRecursion (λ i. i < length r) w
      pub allows : AllIn a w
      pub admitted : Admitted l w
      pub apart : Apart (reached l w)
      pub owner : NoneOf o (reached l w)
      pub others : AllByRecursion (λ (b : Grant). NoneOf b.grantee (reached l w)) c
      pub admits : AllByRecursion (λ (b : Grant). Admits b w) c

    heads : (c : List Grant) (i : ℕ) (w : List ℕ) → AllByRecursion (λ (b : Grant). Admits b (i ∷ w)) c → AllOnward means c (at r i).state × AllByRecursion (λ (b : Grant). Admits b w) c
    heads [] i w x = (tt, tt)
    heads (b ∷ c) i w x = let y = heads c i w x.1 in ((x.0.0, y.0), (x.0.1, y.1))

    news : (c : List Grant) (x : ℕ) (xs : List ℕ) → AllByRecursion (λ (b : Grant). NoneOf b.grantee (x ∷ xs)) c → AllByRecursion (λ (b : Grant). b.grantee ≡ x → ⊥) c × AllByRecursion (λ (b : Grant). NoneOf b.grantee xs) c
    news [] x xs n = (tt, tt)
    news (b ∷ c) x xs n = let y = news c x xs n.1 in ((λ e. n.0.0 (sym e), y.0), (n.0.1, y.1))

    step : (c : List Grant) (p t i : ℕ) (w : List ℕ) → GoesOn c p t (i ∷ w) → GoesOn (at r i ∷ c) (at r i).grantee t w
    step c p t i w s =
        let g = at r i in
        let lt = s.low.0 in
        let to = fits.taker i lt in
        let pass = and_parts (eqb g.hook h) (test g) (sym (fits.allowed i lt) ∙ s.allows.0) in
        let hs = heads c i w s.admits in
        let ns = news c (link l i).taker (reached l w) s.others in
        record {
          chain = (
            at_in r i lt,
            eqb-true g.hook h pass.0,
            refl,
            (λ e. s.owner.0 (to ∙ e), subst (λ x. AllByRecursion (λ (b : Grant). b.grantee ≡ x → ⊥) c) to ns.0),
            subst (Chain r h o c) (sym s.joins.1 ∙ fits.giver i lt) s.chain,
          );
          valid = (s.valid, hs.0);
          passes = (pass.1, s.passes);
          joins = subst (λ x. Joins l x w t) to s.joins.2;
          low = s.low.1;
          allows = s.allows.1;
          admitted = s.admitted.1;
          apart = s.apart.1;
          owner = s.owner.1;
          others = (subst (λ x. NoneOf x (reached l w)) to s.apart.0, ns.1);
          admits = (row_admits i w lt s.allows.0 s.low.1 s.allows.1 s.admitted.0, hs.1);
        }

    -- a valid chain whose grants all pass
    abbrev pub Passes : List Grant → ℕ → Type 0
    Passes c t = Chain r h o c t × Valid means recorded c × AllByRecursion (λ (g : Grant). test g ≡ true) c

    goes : (c : List Grant) (p t : ℕ) (w : List ℕ) → GoesOn c p t w → Passes (onto r w c) t
    goes c p t [] s = (subst (Chain r h o c) s.joins s.chain, s.valid, s.passes)
    goes c p t (i ∷ w) s = goes (at r i ∷ c) (at r i).grantee t w (step c p t i w s)

    pub there : Person o → (t : ℕ) (w : List ℕ) → Way l o t a w → Passes (onto r w []) t
    there person t w way =
        goes [] o t w (record {
          chain = (refl, person);
          valid = tt;
          passes = tt;
          joins = way.joins;
          low = subst (λ n. AllByRecursion (λ i. i < n) w) fits.count (joins_low l o t w way.joins);
          allows = way.allows;
          admitted = way.admitted;
          apart = way.apart.1;
          owner = way.apart.0;
          others = tt;
          admits = tt;
        })

    -- the rows of the places w have place i
    rows_have : (i : ℕ) (w : List ℕ) → i < length r → member a i ≡ true → AllByRecursion (λ k. k < length r) w → AllIn a w → AllByRecursion (λ k. means (at r k).onward (at r i).state ≡ True) w → AllByRecursion (λ k. member (link l k).row i ≡ true) w
    rows_have i [] lt m low al tr = tt
    rows_have i (k ∷ w) lt m low al tr = (
      fits.rows k i low.0 lt al.0 m ∙ (decides_is_true (means (at r k).onward (at r i).state)).1 tr.0,
      rows_have i w lt m low.1 al.1 tr.1,
    )

    takers_differ : (t : ℕ) (w : List ℕ) → AllByRecursion (λ k. k < length r) w → AllByRecursion (λ k. (at r k).grantee ≡ t → ⊥) w → AllByRecursion (λ x. t ≡ x → ⊥) (reached l w)
    takers_differ t [] low n = tt
    takers_differ t (k ∷ w) low n = (λ e. n.0 (sym (e ∙ fits.taker k low.0)), takers_differ t w low.1 n.1)

    pub back : (c : List Grant) (t : ℕ) → Passes c t → (w : List ℕ) × (onto r w [] ≡ c) × Way l o t a w
    back [] t x = ([], refl, record { joins = sym x.0.0; allows = tt; admitted = tt; apart = (tt, tt) })
    back (g ∷ c) t x =
        let below = back c g.grantor (x.0.4, x.1.0, x.2.1) in
        let w = below.0 in
        let way = below.2 in
        let place = in_at r g x.0.0 in
        let i = place.0 in
        let lt = place.1 in
        let same = place.2 in
        let low = subst (λ n. AllByRecursion (λ i. i < n) w) fits.count (joins_low l o g.grantor w way.joins) in
        let m : member a i ≡ true =
        fits.allowed i lt ∙ ap (λ (k : Grant). eqb k.hook h && test k) same ∙ and_from (eqb g.hook h) (test g) (eq-eqb g.hook h x.0.1) x.2.0 in
        let to : (link l i).taker ≡ t = fits.taker i lt ∙ ap (λ (k : Grant). k.grantee) same ∙ x.0.2 in
        let older = λ (P : Grant → Type 0) (all : AllByRecursion P c). (onto_all r P w [] (subst (AllByRecursion P) (sym below.1) all)).0 in
        let true_of : AllByRecursion (λ k. means (at r k).onward (at r i).state ≡ True) w =
        older (λ (k : Grant). means k.onward (at r i).state ≡ True) (subst (λ (k : Grant). AllOnward means c k.state) (sym same) x.1.1) in
        let fresh : AllByRecursion (λ y. t ≡ y → ⊥) (o ∷ reached l w) = (x.0.3.0, takers_differ t w low (older (λ (k : Grant). k.grantee ≡ t → ⊥) x.0.3.1)) in (
          w ++ (i ∷ []),
          onto_push r w i [] ∙ (λ j. same j ∷ below.1 j),
          record {
            joins = subst (Joins l o (w ++ (i ∷ []))) to (joins_push l o g.grantor i w way.joins (subst (λ n. i < n) (sym fits.count) lt) (fits.giver i lt ∙ ap (λ (k : Grant). k.grantor) same));
            allows = all_in_push a i w way.allows m;
            admitted = admitted_push l i w way.admitted (rows_have i w lt m low way.allows true_of);
            apart = subst (λ xs. Apart (o ∷ xs)) (sym (reached_push l i w)) (apart_push (link l i).taker (o ∷ reached l w) way.apart (subst (λ y. AllByRecursion (λ z. y ≡ z → ⊥) (o ∷ reached l w)) (sym to) fresh));
          },
        )
