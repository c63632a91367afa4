-- Laws of truths that stay: the connectives, a test of one variable, and a choice keep them.
use Rattle.std.specs.Prelude.{◌≡◌, ℕ, Bool, true, false, cond, Some, None, Option, refl}
use Rattle.std.proofs.Common.{sym, ap, subst, ◌∙◌}
use Rattle.conditions.specs.declared.truth.Truth.{Truth}
use Rattle.conditions.specs.declared.truth.Truth.TheVariants.{True, False, Unknown}
use Rattle.conditions.specs.Laws.{Stays}
use Rattle.conditions.specs.Truths.{conj, disj, neg, is_true}

pub stays_self : (x : Truth) → Stays x x
stays_self True = refl
stays_self False = refl
stays_self Unknown = tt

pub true_stays : {x y : Truth} → Stays x y → x ≡ True → y ≡ True
true_stays {x} {y} stays e = subst (λ z. Stays z y) e stays

pub is_true_lem : (x : Truth) → is_true x ≡ true → x ≡ True
is_true_lem True e = refl
is_true_lem False e = cc
is_true_lem Unknown e = cc

conj_false : (x : Truth) → conj x False ≡ False
conj_false True = refl
conj_false False = refl
conj_false Unknown = refl

disj_true : (x : Truth) → disj x True ≡ True
disj_true True = refl
disj_true False = refl
disj_true Unknown = refl

pub conj_steady : (a b a' b' : Truth) → Stays a a' → Stays b b' → Stays (conj a b) (conj a' b')
conj_steady True b a' b' h k = subst (λ x. Stays b (conj x b')) (sym h) k
conj_steady False b a' b' h k = ap (λ x. conj x b') h
conj_steady Unknown True a' b' h k = tt
conj_steady Unknown False a' b' h k = ap (conj a') k ∙ conj_false a'
conj_steady Unknown Unknown a' b' h k = tt

pub disj_steady : (a b a' b' : Truth) → Stays a a' → Stays b b' → Stays (disj a b) (disj a' b')
disj_steady True b a' b' h k = ap (λ x. disj x b') h
disj_steady False b a' b' h k = subst (λ x. Stays b (disj x b')) (sym h) k
disj_steady Unknown True a' b' h k = ap (disj a') k ∙ disj_true a'
disj_steady Unknown False a' b' h k = tt
disj_steady Unknown Unknown a' b' h k = tt

pub neg_steady : (a a' : Truth) → Stays a a' → Stays (neg a) (neg a')
neg_steady True a' h = ap neg h
neg_steady False a' h = ap neg h
neg_steady Unknown a' h = tt

-- a test of one variable that is unknown of an unknown value
pub test_steady : (f : Option ℕ → Truth) → f None ≡ Unknown → (o p : Option ℕ) → ((n : ℕ) → o ≡ Some n → p ≡ Some n) → Stays (f o) (f p)
test_steady f none None p h = subst (λ x. Stays x (f p)) (sym none) tt
test_steady f none (Some n) p h = subst (λ q. Stays (f (Some n)) (f q)) (sym (h n refl)) (stays_self (f (Some n)))

pub stays_cond : (b : Bool) (x y x' y' : Truth) → Stays x x' → Stays y y' → Stays (cond b x y) (cond b x' y')
stays_cond true x y x' y' h k = h
stays_cond false x y x' y' h k = k
