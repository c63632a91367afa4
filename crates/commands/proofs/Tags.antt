-- Cases on a number by a list of numbers, and options.
use Rattle.std.proofs.Common.{◌≡◌, ℕ, true, false, eqb, List, [], ◌∷◌, is_some, Some, None, Ok, Err, Option, sym, refl, subst, ⊎_elim, arith}
use Rattle.std.proofs.lemmas.Option.{none-some}
use Rattle.std.specs.Option.{option_map, ok_or, option_and_then as then}
use Rattle.std.specs.List.{AllByRecursion}
use Rattle.std.proofs.lemmas.Bool.{eqb-true, cases_Bool}
use Rattle.command_words.specs.Format.{kind_of}
use Rattle.command_words.specs.Format.Kind.{unknown}
use Rattle.commands.specs.Steps.{worth}

-- a number is one of the list, or none of it
pub by_tags : (P : ℕ → Type 0) (t : ℕ) (ks : List ℕ) → AllByRecursion P ks → (AllByRecursion (λ k. eqb t k ≡ false) ks → P t) → P t
by_tags P t [] a other = other tt
by_tags P t (k ∷ ks) a other =
    ⊎_elim (λ e. subst P (sym (eqb-true t k e)) a.0) (λ e. by_tags P t ks a.1 (λ r. other (e, r))) (cases_Bool (eqb t k))

abbrev pub tags : List ℕ
tags = 1 ∷ 2 ∷ 3 ∷ 4 ∷ 5 ∷ 6 ∷ 7 ∷ 8 ∷ 9 ∷ 10 ∷ []

-- what holds of each tag there is
pub ten : (P : ℕ → Type 0) → P 1 → P 2 → P 3 → P 4 → P 5 → P 6 → P 7 → P 8 → P 9 → P 10 → AllByRecursion P tags
ten P a b c d e f g h i j = (a, (b, (c, (d, (e, (f, (g, (h, (i, (j, tt))))))))))

pub then_some : {X Y : Type 0} (F : X → Option Y) (o : Option X) (y : Y) → then F o ≡ Some y → (x : X) × (o ≡ Some x) × (F x ≡ Some y)
then_some F None y e = absurd (none-some _ e)
then_some F (Some x) y e = (x, refl, e)

pub mapped_some : {X Y : Type 0} (F : X → Y) (o : Option X) (y : Y) → option_map F o ≡ Some y → (x : X) × (o ≡ Some x) × (y ≡ F x)
mapped_some F None y e = absurd (none-some _ e)
mapped_some F (Some x) y e = (x, refl, cc)

pub some_since : {X : Type 0} (o : Option X) → is_some o ≡ true → (x : X) × (o ≡ Some x)
some_since None e = let z : ◌≡◌ {A = ℕ} 0 1 = cc in absurd (omega arith)
some_since (Some x) e = (x, refl)

pub none_since : {X : Type 0} (o : Option X) → is_some o ≡ false → o ≡ None
none_since None e = refl
none_since (Some x) e = let z : ◌≡◌ {A = ℕ} 0 1 = cc in absurd (omega arith)

pub ok_some : {X E : Type 0} (o : Option X) (e : E) (x : X) → ok_or o e ≡ Ok x → o ≡ Some x
ok_some None e x h = let z : ◌≡◌ {A = ℕ} 0 1 = cc in absurd (omega arith)
ok_some (Some y) e x h = cc

pub err_none : {X E : Type 0} (o : Option X) (e f : E) → ok_or o e ≡ Err f → (o ≡ None) × (e ≡ f)
err_none None e f h = (refl, cc)
err_none (Some y) e f h = let z : ◌≡◌ {A = ℕ} 0 1 = cc in absurd (omega arith)

-- there is no other tag
module _ (t : ℕ) (o : AllByRecursion (λ k. eqb t k ≡ false) tags) where
  pub worth_none : (v : List ℕ) → worth t v ≡ None
  worth_none v = rw (o.0, o.1.0, o.1.1.0, o.1.1.1.0, o.1.1.1.1.0, o.1.1.1.1.1.0, o.1.1.1.1.1.1.0, o.1.1.1.1.1.1.1.0, o.1.1.1.1.1.1.1.1.0, o.1.1.1.1.1.1.1.1.1.0)

  pub kind_unknown : kind_of t ≡ unknown
  kind_unknown = rw (o.0, o.1.0, o.1.1.0, o.1.1.1.0, o.1.1.1.1.0, o.1.1.1.1.1.0, o.1.1.1.1.1.1.0, o.1.1.1.1.1.1.1.0, o.1.1.1.1.1.1.1.1.0, o.1.1.1.1.1.1.1.1.1.0)
