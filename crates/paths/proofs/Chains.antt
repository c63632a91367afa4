-- The ways of a search are the chains over its links.
use Rattle.std.proofs.Common.{◌≡◌, ℕ, ◌<◌, not, ◌&&◌, eqb, List, [], ◌∷◌, length, Some, None, Option, sym, ap, ◌∙◌, inl, inr, ⊎_elim}
use lib.Bits.{bit_and, bit_xor}
use Rattle.std.proofs.lemmas.Bool.{and_parts, and_from, ne_eqb, eqb-false, not-true, not_from_false, cases_order, lt-ltb}
use Rattle.places.specs.Sets.{member}
use Rattle.paths.specs.Steps.{Steps, Shortest}
use Rattle.paths.specs.Chains.{Joins, AllIn, Admitted, NoneOf, Apart, reached, Chain, Best, link}
use Rattle.paths.specs.Plans.{step, Leading}
use Rattle.paths.specs.declared.links.Links.{Links}
use Rattle.paths.specs.declared.route.Route.{Route}
use Rattle.paths.specs.declared.plan.Plan.{Plan}
use Rattle.places.proofs.Members.{member_and, member_without}

module _ (l : Links) where
  -- s holds just the places of b that do not lead to x
  abbrev pub Avoids : ℕ → ℕ → ℕ → Type 0
  Avoids b x s = (j : ℕ) → j < l.count → member s j ≡ (member b j && not (eqb (link l j).taker x))

  -- a set without the places that lead to x
  pub left_avoids : (b x s : ℕ) → Leading l x s → Avoids b x (bit_xor b (bit_and b s))
  left_avoids b x s to j lt =
      member_without b s j ∙ ap (λ z. member b j && not z) (to j ∙ ap (λ z. z && eqb (link l j).taker x) (lt-ltb j l.count lt))

  -- every place of a way that joins is on record
  pub all_and : (a b x s p t : ℕ) (w : List ℕ) → Avoids b x s → Joins l p w t → AllIn a w → AllIn b w → NoneOf x (reached l w) → AllIn (bit_and a s) w
  all_and a b x s p t [] av js h k non = tt
  all_and a b x s p t (i ∷ is) av js h k non = (
    member_and a s i ∙ and_from _ _ h.0 (av i js.0 ∙ and_from _ _ k.0 (not_from_false _ (ne_eqb _ x non.0))),
    all_and a b x s (link l i).taker t is av js.2 h.1 k.1 non.1,
  )

  pub all_left : (a s : ℕ) (w : List ℕ) → AllIn (bit_and a s) w → AllIn a w
  all_left a s [] h = tt
  all_left a s (i ∷ is) h = ((and_parts (member a i) (member s i) (sym (member_and a s i) ∙ h.0)).0, all_left a s is h.1)

  pub all_right : (a s : ℕ) (w : List ℕ) → AllIn (bit_and a s) w → AllIn s w
  all_right a s [] h = tt
  all_right a s (i ∷ is) h = ((and_parts (member a i) (member s i) (sym (member_and a s i) ∙ h.0)).1, all_right a s is h.1)

  pub avoids_in : (b x s p t : ℕ) (w : List ℕ) → Avoids b x s → Joins l p w t → AllIn s w → AllIn b w
  avoids_in b x s p t [] av js h = tt
  avoids_in b x s p t (i ∷ is) av js h =
      ((and_parts (member b i) _ (sym (av i js.0) ∙ h.0)).0, avoids_in b x s (link l i).taker t is av js.2 h.1)

  pub avoids_none : (b x s p t : ℕ) (w : List ℕ) → Avoids b x s → Joins l p w t → AllIn s w → NoneOf x (reached l w)
  avoids_none b x s p t [] av js h = tt
  avoids_none b x s p t (i ∷ is) av js h =
      (eqb-false _ x (not-true _ (and_parts (member b i) _ (sym (av i js.0) ∙ h.0)).1), avoids_none b x s (link l i).taker t is av js.2 h.1)

module _ (n : Plan) (t : ℕ) where
  pub to_steps : (a p : ℕ) (w : List ℕ) → Joins n.links p w t → AllIn a w → Admitted n.links w → Apart (reached n.links w) → Steps n t a p w
  to_steps a p [] js h ad ap' = js
  to_steps a p (i ∷ is) js h ad apart = (
    js.0,
    js.1,
    h.0,
    to_steps (bit_and a (step n.steps i).keep) (link n.links i).taker is js.2
        (all_and n.links a (link n.links i).row (link n.links i).taker (step n.steps i).keep (link n.links i).taker t is (λ j lt. n.narrowed i j (js.0, lt)) js.2 h.1 ad.0 apart.0)
        ad.1 apart.1,
  )

  pub joins_from : (a p : ℕ) (w : List ℕ) → Steps n t a p w → Joins n.links p w t
  joins_from a p [] s = s
  joins_from a p (i ∷ is) s = (s.0, s.1, joins_from (bit_and a (step n.steps i).keep) (link n.links i).taker is s.3)

  pub all_from : (a p : ℕ) (w : List ℕ) → Steps n t a p w → AllIn a w
  all_from a p [] s = tt
  all_from a p (i ∷ is) s = (s.2, all_left n.links a (step n.steps i).keep is (all_from (bit_and a (step n.steps i).keep) (link n.links i).taker is s.3))

  pub rest_from : (a p : ℕ) (w : List ℕ) → Steps n t a p w → Admitted n.links w × Apart (reached n.links w)
  rest_from a p [] s = (tt, tt)
  rest_from a p (i ∷ is) s =
      let x = (link n.links i).taker in
      let k = (step n.steps i).keep in
      let next : Steps n t (bit_and a k) x is = s.3 in
      let on : i < n.links.count = s.0 in
      let js = joins_from (bit_and a k) x is next in
      let inside = all_right n.links a k is (all_from (bit_and a k) x is next) in
      let more = rest_from (bit_and a k) x is next in
      let av = λ (j : ℕ) (lt : j < n.links.count). n.narrowed i j (on, lt) in
      ((avoids_in n.links (link n.links i).row x k x t is av js inside, more.0), (avoids_none n.links (link n.links i).row x k x t is av js inside, more.1))

  pub chain_steps : (owner allowed s : ℕ) → Leading n.links owner s → (w : List ℕ) → Chain n.links owner t allowed w → Steps n t (bit_xor allowed (bit_and allowed s)) owner w
  chain_steps owner allowed s lv w c =
      to_steps (bit_xor allowed (bit_and allowed s)) owner w c.joins
      (all_right n.links allowed (bit_xor allowed (bit_and allowed s)) w (all_and n.links allowed allowed owner (bit_xor allowed (bit_and allowed s)) owner t w (left_avoids n.links allowed owner s lv) c.joins c.allows c.allows c.apart.0))
      c.admitted c.apart.1

  pub steps_chain : (owner allowed s : ℕ) → Leading n.links owner s → (w : List ℕ) → Steps n t (bit_xor allowed (bit_and allowed s)) owner w → Chain n.links owner t allowed w
  steps_chain owner allowed s lv w st =
      let start = bit_xor allowed (bit_and allowed s) in
      let js = joins_from start owner w st in
      let inside = all_from start owner w st in
      let rest = rest_from start owner w st in
      let av = left_avoids n.links allowed owner s lv in
      record {
        joins = js;
        allows = avoids_in n.links allowed owner start owner t w av js inside;
        admitted = rest.0;
        apart = (avoids_none n.links allowed owner start owner t w av js inside, rest.1);
      }

  pub best_from : (owner allowed s : ℕ) → Leading n.links owner s → (most : ℕ) (r : Option Route)
      → Shortest n t (bit_xor allowed (bit_and allowed s)) owner most r → Best n.links owner t allowed most r
  best_from owner allowed s lv most None h = λ q le c. h q le (chain_steps owner allowed s lv q c)
  best_from owner allowed s lv most (Some route) h =
      let w = h.0 in (
        w,
        h.1,
        h.2,
        steps_chain owner allowed s lv w h.3.0,
        λ q le c.
            let st = chain_steps owner allowed s lv q c in
            ⊎_elim
            (λ same. inr (same, h.3.1 q (sym same) st))
            (⊎_elim (λ lt. inl lt) (λ gt. absurd (h.4 q gt st)))
            (cases_order (length w) (length q)),
      )
