-- Laws of the memory of failed searches.
use Rattle.std.proofs.Common.{◌≡◌, ℕ, zero, suc, ◌-◌, ◌<◌, ◌≤◌, Bool, true, false, List, [], ◌∷◌, ◌++◌, length, get_or, take, drop, set, replicate, MatchBool, sym, refl, ap, ◌∙◌, subst, arith}
use lib.Bits.{bit_and}
use borrow.Rule.Slice.PartMut.{put_mid}
use Rattle.std.proofs.lemmas.List.{drop_all, append-nil, take_all, take-replicate, get_or-replicate}
use Rattle.std.proofs.lemmas.Bool.{and_parts, and_from, both_ways}
use Rattle.places.specs.Sets.{member}
use Rattle.paths.specs.Chains.{link}
use Rattle.paths.specs.Plans.{step}
use Rattle.paths.specs.Steps.{Steps, Never}
use Rattle.std.specs.List.{HoldsAt}
use Rattle.paths.specs.Memories.{failure, Failed, Knows, Ready}
use Rattle.paths.specs.declared.plan.Plan.{Plan}
use Rattle.paths.specs.declared.memory.Search.{Search}
use Rattle.paths.specs.declared.memory.Failures.{Failures}
use Rattle.places.proofs.Members.{member_and, member_zero}

-- every place of a is one of b
abbrev pub Within : ℕ → ℕ → Type 0
Within a b = (i : ℕ) → member a i ≡ true → member b i ≡ true

pub within_from : (a b : ℕ) → bit_and a b ≡ a → Within a b
within_from a b e i h = (and_parts (member a i) (member b i) (sym (member_and a b i) ∙ ap (λ s. member s i) e ∙ h)).1

within_and : (a b k : ℕ) → Within a b → Within (bit_and a k) (bit_and b k)
within_and a b k w i h =
    let both = and_parts (member a i) (member k i) (sym (member_and a k i) ∙ h) in
    member_and b k i ∙ and_from _ _ (w i both.0) both.1

abbrev pub none : Search
none = record { person = 0; allowed = 0 }

-- a memory that has noted nothing
abbrev pub fresh : Failures
fresh = record { noted = replicate 32 none; next = 0 }

-- a failure from p, with every place of a and perhaps more
abbrev pub Covers : ℕ → ℕ → Search → Type 0
Covers a p f = (f.person ≡ p) × (bit_and a f.allowed ≡ a)

module _ (n : Plan) (t : ℕ) where
  pub steps_more : (a b p : ℕ) (w : List ℕ) → Within a b → Steps n t a p w → Steps n t b p w
  steps_more a b p [] h s = s
  steps_more a b p (i ∷ is) h s =
      (s.0, s.1, h i s.2, steps_more (bit_and a (step n.steps i).keep) (bit_and b (step n.steps i).keep) (link n.links i).taker is (within_and a b (step n.steps i).keep h) s.3)

  pub never_less : (a b p k : ℕ) → bit_and a b ≡ a → Never n t b p k → Never n t a p k
  never_less a b p k e h q l s = h q l (steps_more a b p q (within_from a b e) s)

  -- the last place of a way leads to the target
  last_of : (a p : ℕ) (w : List ℕ) → 0 < length w → Steps n t a p w → (i : ℕ) × (i < n.links.count) × (member a i ≡ true) × ((link n.links i).taker ≡ t)
  last_of a p [] pos s = absurd (omega arith)
  last_of a p (i ∷ []) pos s = (i, s.0, s.2, s.3)
  last_of a p (i ∷ j ∷ js) pos s =
      let r = last_of (bit_and a (step n.steps i).keep) (link n.links i).taker (j ∷ js) (omega arith) s.3 in
      (r.0, r.1, (and_parts (member a r.0) (member (step n.steps i).keep r.0) (sym (member_and a (step n.steps i).keep r.0) ∙ r.2)).0, r.3)

  -- no allowed place leads to the target
  pub never_away : (near : List ℕ) (last base : ℕ) → Ready n near t last base → (a p k : ℕ) → bit_and a last ≡ 0 → 0 < k → Never n t a p k
  never_away near last base ready a p k e pos q l s =
      let r = last_of a p q (omega arith) s in
      both_ways (member 0 r.0) (member_zero r.0) (sym (ap (λ x. member x r.0) e) ∙ member_and a last r.0 ∙ and_from _ _ r.2 (ready.ends r.0 r.1 r.3))

  pub knows_head : (memo : List Failures) (d : Failures) → 0 < length memo → Knows n t memo → Failed n t (length memo) (get_or memo 0 d)
  knows_head [] d pos h = absurd (omega arith)
  knows_head (lv ∷ lvs) d pos h = h.0

  pub knows_rest : (memo : List Failures) → 0 < length memo → Knows n t memo → Knows n t (take (length memo - 1) (drop 1 memo))
  knows_rest [] pos h = absurd (omega arith)
  knows_rest (lv ∷ lvs) pos h = subst (Knows n t) (sym (take_all (suc (length lvs) - 1) lvs (omega arith))) h.1

  pub knows_put : (memo rest : List Failures) → 0 < length memo → length rest ≡ length memo - 1 → Knows n t memo → Knows n t rest → Knows n t (put_mid 1 (length memo - 1) memo rest)
  knows_put [] rest pos e h k = absurd (omega arith)
  knows_put (lv ∷ lvs) rest pos e h k =
      let same : lv ∷ rest ≡ put_mid 1 (suc (length lvs) - 1) (lv ∷ lvs) rest =
      ap (λ z. lv ∷ z) (sym (ap (λ z. rest ++ z) (drop_all (suc (length lvs) - 1) lvs (omega arith)) ∙ append-nil rest)) in
      subst (Knows n t) same (subst (λ m. Failed n t (suc m) lv) (omega arith) h.0, k)

  pub knows_note : (memo : List Failures) (d lv : Failures) → 0 < length memo → Knows n t memo → (Failed n t (length memo) (get_or memo 0 d) → Failed n t (length memo) lv) → Knows n t (set memo 0 lv)
  knows_note [] d lv pos h f = absurd (omega arith)
  knows_note (old ∷ lvs) d lv pos h f = (f h.0, h.1)

  never_empty : (p k : ℕ) → 0 < k → Never n t 0 p k
  never_empty p k pos [] l s = omega arith
  never_empty p k pos (i ∷ is) l s = both_ways (member 0 i) (member_zero i) s.2

  pub knows_fresh : (k : ℕ) → Knows n t (replicate k fresh)
  knows_fresh zero = tt
  knows_fresh (suc k) = (
    λ j lt. subst (λ (f : Search). Never n t f.allowed f.person (suc (length (replicate k fresh)))) (sym (get_or-replicate 32 j none none lt)) (never_empty 0 _ (omega arith)),
    knows_fresh k,
  )

  -- a search that one of the noted failures covers
  pub covered_never : (a p k : ℕ) (f : Failures) (r : Bool) (others : Type 0) → length f.noted ≡ 32 → MatchBool r ((j : ℕ) × (j < length f.noted) × HoldsAt (Covers a p) f.noted j) others
      → r ≡ true → Failed n t k f → Never n t a p k
  covered_never a p k f true others long found e failed =
      let j = found.0 in
      let covers = found.2 none in
      never_less a (failure f j).allowed p k covers.1 (subst (λ x. Never n t (failure f j).allowed x k) covers.0 (failed j (omega (arith, found.1))))
  covered_never a p k f false others long found e failed = absurd (both_ways false refl e)

  pub knows_front : (k : ℕ) → k ≤ 8 → Knows n t (take k (replicate 8 fresh))
  knows_front k le = subst (Knows n t) (sym (take-replicate k 8 fresh le)) (knows_fresh k)
