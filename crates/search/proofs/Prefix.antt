-- Every place of a chain over links is itself reached, by the places before it.
use Rattle.std.proofs.Common.{◌≡◌, ℕ, ◌+◌, ◌<◌, ◌≤◌, Bool, true, not, List, [], ◌∷◌, ◌++◌, length, get_or, Decides, sym, refl, ap, ◌∙◌, subst, ⊎_elim, arith}
use lib.Bits.{bit_and, bit_xor}
use Rattle.std.specs.List.{AllByRecursion}
use Rattle.std.proofs.lemmas.List.{length-append}
use Rattle.std.proofs.lemmas.Bool.{and_parts, and_from, cases_Bool, not_from_false}
use Rattle.grants.specs.declared.Grant.{Grant}
use Rattle.places.specs.Sets.{member}
use Rattle.paths.specs.Chains.{link, Joins, AllIn, Admitted, NoneOf, Apart, reached, Chain as Way}
use Rattle.paths.specs.declared.links.Links.{Links}
use Rattle.places.proofs.Members.{member_without}
use Rattle.chains.specs.Chains.{Person}
use Rattle.search.specs.Records.{at}
use Rattle.search.specs.Asked.{Linked, Reached, ReachedAt}
use Rattle.search.proofs.Snoc.{apart_push, joins_push, admitted_push, reached_push, joins_low}

all_push : {X : Type 0} (P : X → Type 0) (xs : List X) (x : X) → AllByRecursion P xs → P x → AllByRecursion P (xs ++ (x ∷ []))
all_push P [] x a p = (p, tt)
all_push P (y ∷ xs) x a p = (a.0, all_push P xs x a.1 p)

module _ (r : List Grant) (l : Links) (columns owners : List ℕ) (linked : Linked r columns l) (o : ℕ) (person : Person o) where
  -- u leads from the owner to p, and each of its places admits each of w
  pub record Begun (p : ℕ) (u w : List ℕ) : Type 0 where
    pub joins : Joins l o u p
    pub admitted : Admitted l u
    pub apart : Apart (o ∷ reached l u)
    pub fresh : AllByRecursion (λ y. NoneOf y (reached l w)) (o ∷ reached l u)
    pub admits : AllByRecursion (λ k. AllIn (link l k).row w) u
    pub low : AllByRecursion (λ k. k < length r) u

  heads : (i : ℕ) (u w : List ℕ) → AllByRecursion (λ k. AllIn (link l k).row (i ∷ w)) u → AllByRecursion (λ k. member (link l k).row i ≡ true) u × AllByRecursion (λ k. AllIn (link l k).row w) u
  heads i [] w a = (tt, tt)
  heads i (k ∷ u) w a = let x = heads i u w a.1 in ((a.0.0, x.0), (a.0.1, x.1))

  fresh_heads : (x : ℕ) (ys xs : List ℕ) → AllByRecursion (λ y. NoneOf y (x ∷ xs)) ys → AllByRecursion (λ y. x ≡ y → ⊥) ys × AllByRecursion (λ y. NoneOf y xs) ys
  fresh_heads x [] xs a = (tt, tt)
  fresh_heads x (y ∷ ys) xs a = let z = fresh_heads x ys xs a.1 in ((a.0.0, z.0), (a.0.1, z.1))

  in_column : (i : ℕ) (u : List ℕ) → i < length r → AllByRecursion (λ k. k < length r) u → AllByRecursion (λ k. member (link l k).row i ≡ true) u → AllIn (get_or columns i 0) u
  in_column i [] lt low a = tt
  in_column i (k ∷ u) lt low a = (sym (linked.row k i low.0 lt) ∙ a.0, in_column i u lt low.1 a.1)

  all_reached : (p t : ℕ) (u w : List ℕ) → Begun p u w → Joins l p w t → Admitted l w → Apart (reached l w) → length u + length w ≤ 7
      → AllByRecursion (λ k. get_or owners (at r k).hook 0 ≡ o) w → AllByRecursion (λ k. k < length r) w → AllByRecursion (ReachedAt l r columns owners) w
  all_reached p t u [] b js ad ap' few own low = tt
  all_reached p t u (i ∷ w) b js ad ap' few own low =
      let lt = low.0 in
      let hs = heads i u w b.admits in
      let fs = fresh_heads (link l i).taker (o ∷ reached l u) (reached l w) b.fresh in
      let way : Way l o (at r i).grantor (get_or columns i 0) u = record {
        joins = subst (Joins l o u) (sym js.1 ∙ linked.giver i lt) b.joins;
        allows = in_column i u lt b.low hs.0;
        admitted = b.admitted;
        apart = b.apart;
      } in
      let long : length (u ++ (i ∷ [])) ≡ length u + 1 = length-append u (i ∷ []) in (
        subst (λ x. Reached l x (at r i).grantor (get_or columns i 0)) (sym own.0) (u, person, omega (arith, few), way),
        all_reached (link l i).taker t (u ++ (i ∷ [])) w
            (record {
              joins = joins_push l o p i u b.joins js.0 js.1;
              admitted = admitted_push l i u b.admitted hs.0;
              apart = subst (λ xs. Apart (o ∷ xs)) (sym (reached_push l i u)) (apart_push (link l i).taker (o ∷ reached l u) b.apart fs.0);
              fresh = subst (λ xs. AllByRecursion (λ y. NoneOf y (reached l w)) (o ∷ xs)) (sym (reached_push l i u)) (all_push (λ y. NoneOf y (reached l w)) (o ∷ reached l u) (link l i).taker fs.1 ap'.0);
              admits = all_push (λ k. AllIn (link l k).row w) u i hs.1 ad.0;
              low = all_push (λ k. k < length r) u i b.low lt;
            }) js.2 ad.1 ap'.1 (omega (arith, few, long)) own.1 low.1,
      )

  pub way_reached : (t a : ℕ) (w : List ℕ) → Way l o t a w → length w ≤ 7 → AllByRecursion (λ k. get_or owners (at r k).hook 0 ≡ o) w → AllByRecursion (ReachedAt l r columns owners) w
  way_reached t a w way few own =
      all_reached o t [] w (record { joins = refl; admitted = tt; apart = (tt, tt); fresh = (way.apart.0, tt); admits = tt; low = tt })
      way.joins way.admitted way.apart.1 (omega (arith, few)) own (subst (λ n. AllByRecursion (λ k. k < n) w) linked.count (joins_low l o t w way.joins))

-- leaving out places that are not reached makes no difference
module _ (r : List Grant) (l : Links) (columns owners : List ℕ) (linked : Linked r columns l)
    (hooks : (i k : ℕ) → i < length r → k < length r → member (get_or columns i 0) k ≡ true → (at r k).hook ≡ (at r i).hook)
    (resting : ℕ) (rests : (k : ℕ) → member resting k ≡ true → ReachedAt l r columns owners k → ⊥) where
  abbrev pub usable : ℕ → ℕ
  usable a = bit_xor a (bit_and a resting)

  all_weak : (a : ℕ) (w : List ℕ) → AllIn (usable a) w → AllIn a w
  all_weak a [] x = tt
  all_weak a (k ∷ w) x = ((and_parts (member a k) (not (member resting k)) (sym (member_without a resting k) ∙ x.0)).0, all_weak a w x.1)

  all_usable : (a : ℕ) (w : List ℕ) → AllIn a w → AllByRecursion (ReachedAt l r columns owners) w → AllIn (usable a) w
  all_usable a [] x y = tt
  all_usable a (k ∷ w) x y = (
    member_without a resting k ∙ and_from (member a k) (not (member resting k)) x.0 (not_from_false (member resting k) (⊎_elim (λ e. absurd (rests k e y.0)) (λ e. e) (cases_Bool (member resting k)))),
    all_usable a w x.1 y.1,
  )

  owned : (i : ℕ) (w : List ℕ) → i < length r → AllByRecursion (λ k. k < length r) w → AllIn (get_or columns i 0) w → AllByRecursion (λ k. get_or owners (at r k).hook 0 ≡ get_or owners (at r i).hook 0) w
  owned i [] lt low a = tt
  owned i (k ∷ w) lt low a = (ap (λ h. get_or owners h 0) (hooks i k lt low.0 a.0), owned i w lt low.1 a.1)

  pub usable_enough : (i : ℕ) → i < length r → (b : Bool) → Decides b (Reached l (get_or owners (at r i).hook 0) (at r i).grantor (usable (get_or columns i 0))) → Decides b (ReachedAt l r columns owners i)
  usable_enough i lt b d =
      let o = get_or owners (at r i).hook 0 in
      let t = (at r i).grantor in
      let a = get_or columns i 0 in (
        λ e. let x = d.0 e in (x.0, x.1, x.2, record { joins = x.3.joins; allows = all_weak a x.0 x.3.allows; admitted = x.3.admitted; apart = x.3.apart }),
        λ x.
            let w = x.0 in
            let way = x.3 in
            let low = subst (λ n. AllByRecursion (λ k. k < n) w) linked.count (joins_low l o t w way.joins) in
            let all = way_reached r l columns owners linked o x.1 t a w way x.2 (owned i w lt low way.allows) in
            d.1 (w, x.1, x.2, record { joins = way.joins; allows = all_usable a w way.allows all; admitted = way.admitted; apart = way.apart }),
      )
