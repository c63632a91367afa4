-- What the loop of a walk comes to.
use Rattle.std.proofs.Common.{◌≡◌, ℕ, suc, ◌-◌, ◌<◌, Bool, true, false, not, ◌&&◌, eqb, List, [], ◌∷◌, ◌++◌, length, drop, set, replicate, MatchBool, sym, refl, ap, ◌∙◌, subst, inl, inr, ⊎_elim, arith}
use native.Mathlib.Nat.{sub-zero}
use lib.Bits.{bit_and}
use borrow.Rule.Slice.PartMut.{put_mid}
use Rattle.std.proofs.lemmas.List.{drop_all, append-nil, drop-replicate}
use Rattle.std.proofs.lemmas.Bool.{eqb-true, eqb-false, ne_eqb, cases_order, cases_eq, both_ways}
use Rattle.places.specs.Sets.{member}
use Rattle.places.proofs.Members.{member_zero}
use Rattle.paths.specs.Steps.{Steps, First, Never}
use Rattle.paths.specs.Chains.{NotAfter, route_of, link}
use Rattle.paths.specs.Plans.{step}
use Rattle.paths.specs.declared.plan.Plan.{Plan}

and_true : (b : Bool) → (b && true) ≡ b
and_true true = refl
and_true false = refl

module _ (n : Plan) (t : ℕ) where
  -- no steps
  never_none : (a p : ℕ) → (p ≡ t → ⊥) → Never n t a p 0
  never_none a p ne [] e s = ne s
  never_none a p ne (x ∷ xs) e s = omega arith

  pub ends : (a p : ℕ) (w : List ℕ) → length w ≡ 0 → MatchBool (eqb p t) (First n t a p w) (Never n t a p (length w))
  ends a p (x ∷ xs) e = absurd (omega arith)
  ends a p [] e =
      elim (eqb p t) as (λ b. eqb p t ≡ b → MatchBool b (First n t a p []) (Never n t a p 0))
      [ true ↦ λ h. (eqb-true p t h, λ q l s. tt) | false ↦ λ f. never_none a p (eqb-false p t f) ] refl

  -- no way begins with a place below i
  abbrev pub NoneBelow : ℕ → ℕ → ℕ → ℕ → Type 0
  NoneBelow a p k i = (j : ℕ) (js : List ℕ) → j < i → length (j ∷ js) ≡ k → Steps n t a p (j ∷ js) → ⊥

  -- no way begins with a place that is not left
  abbrev pub NoneBut : ℕ → ℕ → ℕ → ℕ → Type 0
  NoneBut left a p k = (j : ℕ) (js : List ℕ) → member left j ≡ false → length (j ∷ js) ≡ k → Steps n t a p (j ∷ js) → ⊥

  pub none_but : (left a p k : ℕ) → ((j : ℕ) (js : List ℕ) → length (j ∷ js) ≡ k → Steps n t a p (j ∷ js) → member left j ≡ true) → NoneBut left a p k
  none_but left a p k covers j js out e s = both_ways (member left j) out (covers j js e s)

  pub none_more : (left rest a p k i : ℕ) → NoneBut left a p k → ((j : ℕ) → member rest j ≡ (member left j && not (eqb j i)))
      → ((js : List ℕ) → length (i ∷ js) ≡ k → Steps n t a p (i ∷ js) → ⊥) → NoneBut rest a p k
  none_more left rest a p k i none takes here j js out e s =
      ⊎_elim
      (λ same. here js e (subst (λ m. Steps n t a p (m ∷ js)) same s))
      (λ ne. none j js (sym (and_true (member left j)) ∙ ap (λ b. member left j && not b) (sym (ne_eqb j i ne)) ∙ sym (takes j) ∙ out) e s)
      (cases_eq j i)

  pub none_below : (left a p k i : ℕ) → NoneBut left a p k → ((j : ℕ) → j < i → member left j ≡ false) → NoneBelow a p k i
  none_below left a p k i none low j js lt e s = none j js (low j lt) e s

  later : (a p i : ℕ) (rest : List ℕ) → NoneBelow a p (suc (length rest)) i
      → ((q : List ℕ) → length q ≡ length rest → Steps n t (bit_and a (step n.steps i).keep) (link n.links i).taker q → NotAfter rest q)
      → (q : List ℕ) → length q ≡ suc (length rest) → Steps n t a p q → NotAfter (i ∷ rest) q
  later a p i rest none least [] e s = absurd (omega arith)
  later a p i rest none least (j ∷ js) e s =
      ⊎_elim
      (λ same. inr (same, least js (omega arith) (subst (λ m. Steps n t (bit_and a (step n.steps m).keep) (link n.links m).taker js) (sym same) s.3)))
      (⊎_elim (λ lt. inl lt) (λ gt. absurd (none j js gt e s)))
      (cases_order i j)

  pub first_here : (a p i : ℕ) (rest : List ℕ) → NoneBelow a p (suc (length rest)) i
      → i < n.links.count → (link n.links i).giver ≡ p → member a i ≡ true
      → First n t (bit_and a (step n.steps i).keep) (link n.links i).taker rest → First n t a p (i ∷ rest)
  first_here a p i rest none lt from has f = ((lt, from, has, f.0), later a p i rest none f.1)

  pub never_from : (left a p k : ℕ) → 0 < k → left ≡ 0 → NoneBut left a p k → Never n t a p k
  never_from left a p k pos none nothing [] e s = omega arith
  never_from left a p k pos none nothing (j ∷ js) e s = nothing j js (ap (λ x. member x j) none ∙ member_zero j) e s

-- a path whose rest and then whose first place is written
pub written : (xs rest : List ℕ) (i : ℕ) → 0 < length xs → length rest ≡ length xs - 1 → set (put_mid 1 (length xs - 1) xs rest) 0 i ≡ i ∷ rest
written [] rest i pos e = absurd (omega arith)
written (x ∷ ys) rest i pos e =
    ap (λ z. i ∷ z) (ap (λ z. rest ++ z) (drop_all (suc (length ys) - 1) ys (omega arith)) ∙ append-nil rest)

pub put_length : {X : Type 0} (xs rest : List X) → 0 < length xs → length rest ≡ length xs - 1 → length (put_mid 1 (length xs - 1) xs rest) ≡ length xs
put_length [] rest pos e = absurd (omega arith)
put_length (x ∷ ys) rest pos e =
    ap suc (ap length (ap (λ z. rest ++ z) (drop_all (suc (length ys) - 1) ys (omega arith)) ∙ append-nil rest)) ∙ omega arith

-- a path of zeros whose front is written
pub filled : (k : ℕ) (rest : List ℕ) → length rest ≡ k → record { places = put_mid 0 (k - 0) (replicate 8 0) rest; length = k } ≡ route_of rest
filled k rest e =
    let back : drop (k - 0) (replicate {A = ℕ} 8 0) ≡ replicate (8 - length rest) 0 =
    ap (λ m. drop m (replicate {A = ℕ} 8 0)) (sub-zero k) ∙ drop-replicate k 8 0 ∙ ap (λ m. replicate (8 - m) 0) (sym e) in
    λ i. record { places = rest ++ back i; length = sym e i }
