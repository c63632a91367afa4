-- Laws of the layers of places by their distance.
use Rattle.std.proofs.Common.{◌≡◌, ℕ, ◌-◌, ◌<◌, ◌≤◌, true, not, eqb, ltb, List, [], ◌∷◌, length, get_or, sym, ap, ◌∙◌, subst, add-one, arith}
use lib.Bits.{bit_and}
use Rattle.std.proofs.lemmas.Bool.{lt-ltb, ltb-true, eqb-true, and_parts, and_from, ne_eqb, eq-eqb, both_ways}
use Rattle.places.specs.Sets.{member}
use Rattle.paths.specs.Steps.{Steps}
use Rattle.paths.specs.Chains.{link}
use Rattle.paths.specs.Plans.{step, Given, Leading}
use Rattle.paths.specs.Memories.{Inside, Layers, Ready}
use Rattle.paths.specs.declared.links.Links.{Links}
use Rattle.paths.specs.declared.plan.Plan.{Plan}
use Rattle.places.proofs.Members.{member_and, member_zero}

pub inside_less : (base a k : ℕ) → Inside base a → Inside base (bit_and a k)
inside_less base a k inside j m = inside j (and_parts (member a j) (member k j) (sym (member_and a k j) ∙ m)).0

-- a place that a set of this kind has
pub given_at : (l : Links) (p s j : ℕ) → Given l p s → j < l.count → (link l j).giver ≡ p → member s j ≡ true
given_at l p s j given lt e = given j ∙ and_from _ _ (lt-ltb j l.count lt) (eq-eqb _ p e)

pub leading_at : (l : Links) (p s j : ℕ) → Leading l p s → j < l.count → (link l j).taker ≡ p → member s j ≡ true
leading_at l p s j leading lt e = leading j ∙ and_from _ _ (lt-ltb j l.count lt) (eq-eqb _ p e)

module _ (n : Plan) (t last base : ℕ) (near : List ℕ) (lay : Layers n.steps last base 7 near) (marks : Leading n.links t last) where
  near_at : (a i : ℕ) (is : List ℕ) → length is < 8 → i < n.links.count → member base i ≡ true → Inside base a → Steps n t a (link n.links i).taker is → member (get_or near (length is) 0) i ≡ true
  near_at a i [] lt li b inside s = ap (λ z. member z i) lay.first ∙ member_and last base i ∙ and_from _ _ (leading_at n.links t last i marks li s) b
  near_at a i (j ∷ js) lt li b inside s =
      let k = length js in
      let o = (step n.steps i).onward in
      let d = get_or near k 0 in
      let below : member d j ≡ true = near_at (bit_and a (step n.steps j).keep) j js (omega arith) s.0 (inside j s.2) (inside_less base a (step n.steps j).keep inside) s.3 in
      let both : member (bit_and o d) j ≡ true = member_and o d j ∙ and_from _ _ (given_at n.links _ o j (n.followed i li) s.0 s.1) below in
      let some : bit_and o d ≡ 0 → ⊥ = λ z. both_ways (member 0 j) (member_zero j) (sym (ap (λ x. member x j) z) ∙ both) in
      ap (λ m. member (get_or near m 0) i) (sym (add-one k)) ∙ lay.more k i (omega arith) (omega (arith, n.links.within)) ∙ and_from _ _ (ap not (ne_eqb (bit_and o d) 0 some)) b

  -- so the tables of a net are ready
  pub ready_from : Ready n near t last base
  ready_from = record {
    ends = λ j lt e. leading_at n.links t last j marks lt e;
    near = λ a k i is lt e li b inside s. subst (λ m. member (get_or near m 0) i ≡ true) e (near_at a i is (omega arith) li b inside s);
  }

-- the places at which a way of k steps from p can begin
pub covers : (n : Plan) (t last base : ℕ) (near : List ℕ) → Ready n near t last base → (a p k from : ℕ) → Given n.links p from → Inside base a → k ≤ 8
    → (j : ℕ) (js : List ℕ) → length (j ∷ js) ≡ k → Steps n t a p (j ∷ js) → member (bit_and (bit_and a from) (get_or near (k - 1) 0)) j ≡ true
covers n t last base near ready a p k from given inside le j js e s =
    member_and (bit_and a from) (get_or near (k - 1) 0) j
    ∙ and_from _ _ (member_and a from j ∙ and_from _ _ s.2 (given_at n.links p from j given s.0 s.1))
    (ready.near (bit_and a (step n.steps j).keep) (k - 1) j js (omega arith) (omega arith) s.0 (inside j s.2) (inside_less base a (step n.steps j).keep inside) s.3)

-- a place at which a way from p can begin is of a grant by p, and allowed
pub begins : (l : Links) (p a from d places i : ℕ) → Given l p from → places ≡ bit_and (bit_and a from) d → member places i ≡ true
    → (i < l.count) × ((link l i).giver ≡ p) × (member a i ≡ true)
begins l p a from d places i given is h =
    let first = (and_parts (member (bit_and a from) i) (member d i) (sym (member_and (bit_and a from) d i) ∙ sym (ap (λ x. member x i) is) ∙ h)).0 in
    let both = and_parts (member a i) (member from i) (sym (member_and a from i) ∙ first) in
    let by = and_parts (ltb i l.count) (eqb (link l i).giver p) (sym (given i) ∙ both.1) in
    (ltb-true i l.count by.0, eqb-true (link l i).giver p by.1, both.0)
