-- The definitions and their wording are the same.
use Rattle.std.proofs.Common.{◌≡◌, ℕ, ◌<◌, List, [], ◌∷◌, ◌++◌, map, length, sym, refl, ap, ◌∙◌, subst, inl, inr, ⊎_elim, arith}
use mathlib.Core.List.{head-eq_of_cons-eq, tail-eq_of_cons-eq, nil≢cons, cons≢nil}
use Rattle.std.specs.List.{AllByRecursion}
use Rattle.conditions.specs.declared.truth.Truth.{Truth}
use Rattle.states.specs.declared.state.State.{State}
use Rattle.grants.specs.declared.Grant.{Grant}
use Rattle.chains.specs.Lists.{In}
use Rattle.chains.specs.Chains.{Chain, Valid}
use Rattle.chains.specs.Order.{Lower}
use Rattle.chains.specs.Words.{Same, InWords, EachJustified, FirstLower}

abbrev differ : ℕ → ℕ → Type 0
differ x y = x ≡ y → ⊥

abbrev to : Grant → ℕ
to g = g.grantee

fresh : (p o : ℕ) (c : List Grant) → (p ≡ o → ⊥) → AllByRecursion (λ (b : Grant). b.grantee ≡ p → ⊥) c → AllByRecursion (differ p) (map to c ++ (o ∷ []))
fresh p o [] n a = (n, tt)
fresh p o (g ∷ c) n a = (λ e. a.0 (sym e), fresh p o c n a.1)

unfresh : (p o : ℕ) (c : List Grant) → AllByRecursion (differ p) (map to c ++ (o ∷ [])) → (p ≡ o → ⊥) × AllByRecursion (λ (b : Grant). b.grantee ≡ p → ⊥) c
unfresh p o [] a = (a.0, tt)
unfresh p o (g ∷ c) a = let k = unfresh p o c a.1 in (k.0, (λ e. a.0 (sym e), k.1))

module _ (r : List Grant) (h o : ℕ) where
  there : (c : List Grant) (p : ℕ) → Chain r h o c p → InWords r h o c p
  there [] p x = record {
    owned = x.1;
    recorded = λ g i. absurd i;
    one_hook = λ g i. absurd i;
    first = elim [ [] ↦ λ g e. absurd (nil≢cons e) | a ∷ l ↦ λ g e. absurd (nil≢cons e) ];
    next = elim [ [] ↦ λ b k g e. absurd (nil≢cons e) | a ∷ l ↦ λ b k g e. absurd (nil≢cons e) ];
    last = λ b g e. absurd (nil≢cons e);
    empty = λ e. x.0;
    once = (tt, tt);
  }
  there (a ∷ c) p x =
      let w = there c a.grantor x.4 in
      record {
        owned = w.owned;
        recorded = λ g i. ⊎_elim (λ e. subst (λ b. In b r) e x.0) (w.recorded g) i;
        one_hook = λ g i. ⊎_elim (λ e. sym (ap (λ (b : Grant). b.hook) e) ∙ x.1) (w.one_hook g) i;
        first = elim [ [] ↦ λ g e. sym (ap (λ (b : Grant). b.grantor) (head-eq_of_cons-eq e)) ∙ w.empty (tail-eq_of_cons-eq e) | b ∷ l ↦ λ g e. w.first l g (tail-eq_of_cons-eq e) ];
        next = elim [ [] ↦ λ b k g e. sym (ap (λ (b : Grant). b.grantor) (head-eq_of_cons-eq e)) ∙ sym (w.last b g (tail-eq_of_cons-eq e)) | d ∷ l ↦ λ b k g e. w.next l b k g (tail-eq_of_cons-eq e) ];
        last = λ b g e. sym (ap to (head-eq_of_cons-eq e)) ∙ x.2;
        empty = λ e. absurd (cons≢nil e);
        once = (subst (λ q. AllByRecursion (differ q) (map to c ++ (o ∷ []))) (sym x.2) (fresh p o c x.3.0 x.3.1), w.once);
      }

  back : (c : List Grant) (p : ℕ) → InWords r h o c p → Chain r h o c p
  back [] p w = (w.empty refl, w.owned)
  back (a ∷ c) p w =
      let e = w.last c a refl in
      let f = unfresh p o c (subst (λ q. AllByRecursion (differ q) (map to c ++ (o ∷ []))) e w.once.0) in (
        w.recorded a (inl refl),
        w.one_hook a (inl refl),
        e,
        f,
        back c a.grantor (record {
          owned = w.owned;
          recorded = λ g i. w.recorded g (inr i);
          one_hook = λ g i. w.one_hook g (inr i);
          first = λ l g q. w.first (a ∷ l) g (ap (λ u. a ∷ u) q);
          next = λ l b k g q. w.next (a ∷ l) b k g (ap (λ u. a ∷ u) q);
          last = λ b g q. sym (w.next [] b a g (ap (λ u. a ∷ u) q));
          empty = λ q. w.first [] a (ap (λ u. a ∷ u) q);
          once = w.once.1;
        }),
      )

pub chain_words : (r : List Grant) (h o : ℕ) (c : List Grant) (p : ℕ) → Same (Chain r h o c p) (InWords r h o c p)
chain_words r h o c p = (there r h o c p, back r h o c p)

module _ (means : ℕ → State → Truth) (st : Grant → State) where
  each : (c : List Grant) → Valid means st c → EachJustified means st c
  each [] v [] before g e = absurd (nil≢cons e)
  each [] v (a ∷ after) before g e = absurd (nil≢cons e)
  each (b ∷ c) v [] before g e = subst (λ d. Valid means st d) e v
  each (b ∷ c) v (a ∷ after) before g e = each c v.0 after before g (tail-eq_of_cons-eq e)

  whole : (c : List Grant) → EachJustified means st c → Valid means st c
  whole [] f = tt
  whole (g ∷ c) f = f [] c g refl

  pub valid_words : (c : List Grant) → Same (Valid means st c) (EachJustified means st c)
  valid_words c = (each c, whole c)

lower_split : (c d : List Grant) → Lower c d → FirstLower c d
lower_split [] [] l = absurd l
lower_split [] (k ∷ d) l = absurd l
lower_split (g ∷ c) [] l = absurd l
lower_split (g ∷ c) (k ∷ d) (inl l) =
    let x = lower_split c d l in
    record {
      alike = x.alike;
      newer_c = g ∷ x.newer_c;
      newer_d = k ∷ x.newer_d;
      here = x.here;
      there = x.there;
      c_is = ap (λ u. g ∷ u) x.c_is;
      d_is = ap (λ u. k ∷ u) x.d_is;
      lower = x.lower;
    }
lower_split (g ∷ c) (k ∷ d) (inr l) =
    record { alike = c; newer_c = []; newer_d = []; here = g; there = k; c_is = refl; d_is = ap (λ u. k ∷ u) (sym l.0); lower = l.1 }

long : (a : List Grant) (g : Grant) (e : List Grant) → length e < length (a ++ (g ∷ e))
long [] g e = omega arith
long (x ∷ a) g e = let l = long a g e in omega arith

split_lower : (a b e : List Grant) (g k : Grant) → length (a ++ (g ∷ e)) ≡ length (b ++ (k ∷ e)) → g.number < k.number → Lower (a ++ (g ∷ e)) (b ++ (k ∷ e))
split_lower [] [] e g k q l = inr (refl, l)
split_lower [] (y ∷ b) e g k q l = let m = long b k e in absurd (omega arith)
split_lower (x ∷ a) [] e g k q l = let m = long a g e in absurd (omega arith)
split_lower (x ∷ a) (y ∷ b) e g k q l = inl (split_lower a b e g k (omega arith) l)

pub lower_words : (c d : List Grant) → length c ≡ length d → Same (Lower c d) (FirstLower c d)
lower_words c d q = (
  lower_split c d,
  λ x.
      let s : length (x.newer_c ++ (x.here ∷ x.alike)) ≡ length (x.newer_d ++ (x.there ∷ x.alike)) = sym (ap length x.c_is) ∙ q ∙ ap length x.d_is in
      subst (λ u. Lower u d) (sym x.c_is) (subst (Lower (x.newer_c ++ (x.here ∷ x.alike))) (sym x.d_is) (split_lower x.newer_c x.newer_d x.alike x.here x.there s x.lower)),
)
