-- A letter that names a word is that word's letter.
use Rattle.std.proofs.Common.{◌≡◌, ℕ, true, false, eqb, List, [], ◌∷◌, Some, None, map, sym, refl, ap, ◌∙◌, ⊎_elim}
use Rattle.std.proofs.lemmas.Option.{none-some}
use Rattle.std.specs.List.{AllByRecursion}
use Rattle.std.proofs.lemmas.Bool.{cases_Bool, eqb-true, cond-true, cond-false}
use Rattle.command_words.specs.Letters.{named}

module _ {X : Type 0} (letter : X → ℕ) where
  pub named_letter : (words : List X) (l : ℕ) (x : X) → named letter words l ≡ Some x → l ≡ letter x
  named_letter [] l x e = absurd (none-some _ e)
  named_letter (w ∷ more) l x e =
      ⊎_elim
      (λ (s : eqb l (letter w) ≡ true).
      let u : w ≡ x = cc (sym (cond-true (eqb l (letter w)) (Some w) (named letter more l) s) ∙ e) in
      eqb-true l (letter w) s ∙ ap letter u)
      (λ (s : eqb l (letter w) ≡ false). named_letter more l x (sym (cond-false (eqb l (letter w)) (Some w) (named letter more l) s) ∙ e))
      (cases_Bool (eqb l (letter w)))

  -- and a letter of no word names none
  pub named_none : (words : List X) (l : ℕ) → AllByRecursion (λ k. eqb l k ≡ false) (map letter words) → named letter words l ≡ None
  named_none [] l o = refl
  named_none (w ∷ more) l o = cond-false (eqb l (letter w)) (Some w) (named letter more l) o.0 ∙ named_none more l o.1
