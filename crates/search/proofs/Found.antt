-- What a search finds, in the words of the record.
use Rattle.std.proofs.Common.{◌≡◌, ℕ, ◌+◌, ◌-◌, ◌<◌, ◌≤◌, Bool, true, cond, ◌&&◌, eqb, ltb, List, [], ◌∷◌, ◌++◌, map, reverse, length, get_or, replicate, Some, None, Decides, Option, sym, refl, ap, ◌∙◌, subst, inl, inr, ⊎_elim, arith}
use Rattle.std.specs.List.{range_with_len, AllByRecursion}
use Rattle.std.specs.Option.{option_map}
use Rattle.std.proofs.lemmas.List.FromFn.{get_or-map-range_with_len, length-map-range_with_len}
use Rattle.std.proofs.lemmas.List.{ext_get_or, length-append, length-map, length-replicate, get_or_append_left, get_or-append_right, get_or-map, get_or-replicate}
use Rattle.std.proofs.lemmas.Bool.{and_parts, eqb-true, eq-eqb, cases_lt, lt-ltb, le-ltb, cond-true, cond-false}
use Rattle.std.proofs.lemmas.Bool.Decides.{same_from_decides}
use Rattle.states.specs.declared.state.State.{State}
use Rattle.grants.specs.declared.Grant.{Grant}
use Rattle.conditions.specs.declared.truth.Truth.{Truth}
use Rattle.conditions.specs.declared.truth.Truth.TheVariants.{True}
use Rattle.conditions.specs.Truths.{is_true}
use Rattle.places.specs.Sets.{member}
use Rattle.paths.specs.Chains.{Best, route_of, Chain as Way}
use Rattle.paths.specs.declared.links.Links.{Links}
use Rattle.paths.specs.declared.route.Route.{Route}
use Rattle.chains.specs.declared.chain.Which.{Which}
use Rattle.chains.specs.declared.chain.Which.TheVariants.{Execute, Onward}
use Rattle.chains.specs.Chains.{Person, Serves}
use Rattle.chains.specs.Order.{Lower, Rising}
use Rattle.chains.specs.Search.{condition_of, is_person, stands, least_chain}
use Rattle.chains.specs.Laws.{recorded}
use Rattle.chains.proofs.Sound.{decides_is_true, decides_person, decides_stands}
use Rattle.chains.proofs.Least.{none_chosen, least_chosen}
use Rattle.chains.proofs.Standing.{chain_owner}
use Rattle.search.specs.declared.named.Named.{Named}
use Rattle.search.specs.Records.{at, is_record}
use Rattle.search.specs.Asked.{Passing, ColumnsTo, Linked, Reached}
use Rattle.search.specs.Answers.{named_of, named, Answered, entry, entries}
use Rattle.search.proofs.Places.{record_rises, at_read, onto, onto_length, onto_numbers, not_after}
use Rattle.search.proofs.Snoc.{joins_low}
use Rattle.search.proofs.Bridge.{Fits, there, back}

-- zeros behind a list, up to n
padded : (f : ℕ → ℕ) (w : List ℕ) (n : ℕ) → length w ≤ n
    → map (λ k. cond (ltb k (length w)) (f (get_or (w ++ replicate (n - length w) 0) k 0)) 0) (range_with_len 0 n) ≡ map f w ++ replicate (n - length w) 0
padded f w n le =
    let g : ℕ → ℕ = λ k. cond (ltb k (length w)) (f (get_or (w ++ replicate (n - length w) 0) k 0)) 0 in
    let front : length (map f w) ≡ length w = length-map w f in
    let long : length (map g (range_with_len 0 n)) ≡ n = length-map-range_with_len g 0 n in
    ext_get_or 0 (map g (range_with_len 0 n)) (map f w ++ replicate (n - length w) 0)
    (long ∙ sym (length-append (map f w) (replicate (n - length w) 0) ∙ (λ i. front i + length-replicate {A = ℕ} (n - length w) 0 i) ∙ omega arith))
    (λ k lt.
    let low : k < n = omega arith in
    get_or-map-range_with_len g 0 n k k 0 low (omega arith)
    ∙ ⊎_elim
    (λ h. cond-true (ltb k (length w)) _ _ (lt-ltb k (length w) h) ∙ ap f (get_or_append_left w (replicate (n - length w) 0) 0 k h)
    ∙ sym (get_or_append_left (map f w) (replicate (n - length w) 0) 0 k (omega arith) ∙ get_or-map f w k 0 0 h))
    (λ h. cond-false (ltb k (length w)) _ _ (le-ltb k (length w) h)
    ∙ sym (get_or-append_right (map f w) (replicate (n - length w) 0) (length w) k 0 front h ∙ get_or-replicate (n - length w) (k - length w) 0 0 (omega arith)))
    (cases_lt k (length w)))

-- the numbers of a route are those of its chain
route_named : (r : List Grant) (w : List ℕ) → length w ≤ 8 → entries r (route_of w) ≡ named_of (onto r w [])
route_named r w le =
    let long : length (onto r w []) ≡ length w = onto_length r w [] ∙ omega arith in
    let numbers : map (entry r (route_of w)) (range_with_len 0 8) ≡ reverse (map (λ (g : Grant). g.number) (onto r w [])) ++ replicate (8 - length (onto r w [])) 0 =
    padded (λ i. (at r i).number) w 8 le ∙ (λ j. sym (onto_numbers r w []) j ++ replicate (8 - sym long j) 0) in
    λ j. record { numbers = numbers j; length = sym long j }

module _ (means : ℕ → State → Truth) (r : List Grant) where
  -- the links of the record, and a set of its places, fit
  pub fits : (l : Links) (columns : List ℕ) (among a h o : ℕ) (which : Which) (s : State) → Linked r columns l → ColumnsTo means r among (length r) columns → Passing means r h which s a
      → ((i : ℕ) → i < length r → member a i ≡ true → member among i ≡ true) → Fits means r l a h o (λ g. is_true (means (condition_of which g) s))
  fits l columns among a h o which s linked cols pass sub = record {
    count = linked.count;
    giver = linked.giver;
    taker = linked.taker;
    allowed = pass;
    rows = λ i j li lj mi mj.
        let of : (k : ℕ) → k < length r → member a k ≡ true → (at r k).hook ≡ h =
        λ k lk mk. eqb-true (at r k).hook h (and_parts (eqb (at r k).hook h) (is_true (means (condition_of which (at r k)) s)) (sym (pass k lk) ∙ mk)).0 in
        linked.row i j li lj ∙ cols j lj (sub j lj mj) i li
        ∙ ap (λ b. b && is_true (means (at r i).onward (at r j).state)) (eq-eqb (at r i).hook (at r j).hook (of i li mi ∙ sym (of j lj mj)));
  }

  all_true : (f : Grant → ℕ) (s : State) (c : List Grant) → AllByRecursion (λ (g : Grant). is_true (means (f g) s) ≡ true) c → AllByRecursion (λ (g : Grant). means (f g) s ≡ True) c
  all_true f s [] a = tt
  all_true f s (g ∷ c) a = ((decides_is_true (means (f g) s)).0 a.0, all_true f s c a.1)

  true_all : (f : Grant → ℕ) (s : State) (c : List Grant) → AllByRecursion (λ (g : Grant). means (f g) s ≡ True) c → AllByRecursion (λ (g : Grant). is_true (means (f g) s) ≡ true) c
  true_all f s [] a = tt
  true_all f s (g ∷ c) a = ((decides_is_true (means (f g) s)).1 a.0, true_all f s c a.1)

  module _ (l : Links) (a h o p : ℕ) (s : State) (fit : Fits means r l a h o (λ g. is_true (means (condition_of Execute g) s))) (person : Person o) (up : Rising r) where
    serving : (w : List ℕ) → length w ≤ 8 → Way l o p a w → Serves means recorded r h o p s (onto r w [])
    serving w le way =
        let x = there means r l a h o _ fit person p w way in
        let long = onto_length r w [] in
        (x.0, omega arith, (x.1, all_true (λ g. g.execute) s (onto r w []) x.2))

    way_of : (c : List Grant) → Serves means recorded r h o p s c → (w : List ℕ) × (onto r w [] ≡ c) × Way l o p a w
    way_of c x = back means r l a h o _ fit c p (x.0, x.2.0, true_all (λ g. g.execute) s c x.2.1)

    shorter : (w : List ℕ) (c : List Grant) → onto r w [] ≡ c → length w ≡ length c
    shorter w c e = let long = onto_length r w [] in omega (arith, ap length e)

    answered : (x : Option Route) → Best l o p a 8 x → Answered means r h o p s (option_map (entries r) x)
    answered None best = λ c x. let y = way_of c x in best y.0 (subst (λ n. n ≤ 8) (sym (shorter y.0 c y.1)) x.1) y.2
    answered (Some route) best =
        let w = best.0 in
        let c = onto r w [] in (
          c,
          (
            serving w best.2 best.3,
            λ d x.
                let y = way_of d x in
                let q = y.0 in
                let same = shorter q d y.1 in
                let mine = shorter w c refl in
                ⊎_elim
                (λ lt. inr (inl (omega (arith, same, mine, lt))))
                (λ n.
                let low = subst (λ m. AllByRecursion (λ i. i < m) q) fit.count (joins_low l o p q y.2.joins) in
                ⊎_elim (λ e. inl (e ∙ y.1)) (λ lo. inr (inr (sym mine ∙ n.0 ∙ same, subst (Lower c) y.1 lo))) (not_after r up w q [] n.0 low n.1))
                (best.4 q (subst (λ m. m ≤ 8) (sym same) x.1) y.2),
          ),
          ap (entries r) best.1 ∙ route_named r w best.2,
        )

  -- a draw's search, from what its steps told
  pub drawn_answered : (l : Links) (a h o p : ℕ) (s : State) → (columns : List ℕ) × ColumnsTo means r a (length r) columns × Linked r columns l → Passing means r h Execute s a
      → is_person o ≡ true → is_record r ≡ true → (x : Option Route) → Best l o p a 8 x → Answered means r h o p s (option_map (entries r) x)
  drawn_answered l a h o p s plan pass person real x best =
      answered l a h o p s (fits l plan.0 a a h o Execute s plan.2 plan.1 pass (λ i lt m. m)) ((decides_person o).0 person) (record_rises r real) x best

  pub none_for : (h o p : ℕ) (s : State) → (Person o → ⊥) → Answered means r h o p s None
  none_for h o p s nobody c x = nobody (chain_owner r h o c p x.0)

  pub answered_is : Rising r → (h o p : ℕ) (s : State) (n : Option Named) → Answered means r h o p s n → n ≡ named (least_chain means recorded r h o p s)
  answered_is up h o p s None x = sym (ap named (none_chosen means recorded r h o p s x))
  answered_is up h o p s (Some n) x = sym (ap named (least_chosen means recorded r h o p s up x.0 x.1) ∙ ap (λ (z : Named). Some z) (sym x.2))

  -- standing
  pub stands_is : (l : Links) (a : ℕ) (own : ℕ → ℕ) (g : Grant) → Fits means r l a g.hook (own g.hook) (λ k. is_true (means (condition_of Onward k) g.state))
      → (b : Bool) → Decides b (Reached l (own g.hook) g.grantor a) → b ≡ stands means recorded r own g
  stands_is l a own g fit b d =
      let o = own g.hook in
      same_from_decides b (stands means recorded r own g) (
        λ e.
            let y = d.0 e in
            let w = y.0 in
            let x = there means r l a g.hook o _ fit y.1 g.grantor w y.3 in
            let long = onto_length r w [] in
            let few = y.2 in
            (onto r w [], (x.0, omega arith, (x.1, all_true (λ k. k.onward) g.state (onto r w []) x.2))),
        λ x.
            let c = x.0 in
            let y = back means r l a g.hook o _ fit c g.grantor (x.1.0, x.1.2.0, true_all (λ k. k.onward) g.state c x.1.2.1) in
            let long = onto_length r y.0 [] in
            let few = x.1.1 in
            d.1 (y.0, chain_owner r g.hook o c g.grantor x.1.0, omega (arith, ap length y.1), y.2),
      )
      (decides_stands means recorded r own g)

-- what is found from the grant that a loop reads
pub reached_at : (l : Links) (r : List Grant) (i : ℕ) (d : Grant) (owners : List ℕ) (b : Bool) (o a s : ℕ) → i < length r → o ≡ get_or owners (get_or r i d).hook 0 → a ≡ s
    → Decides b (Reached l o (get_or r i d).grantor a) → Decides b (Reached l (get_or owners (at r i).hook 0) (at r i).grantor s)
reached_at l r i d owners b o a s lt e f h =
    subst (λ (q : Grant). Decides b (Reached l (get_or owners q.hook 0) q.grantor s)) (at_read r i d lt)
    (subst (λ p. Decides b (Reached l p (get_or r i d).grantor s)) e (subst (λ z. Decides b (Reached l o (get_or r i d).grantor z)) f h))
