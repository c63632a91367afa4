-- Fields that pass the tests keep the rules, and the other way round.
use Rattle.std.proofs.Common.{◌≡◌, ℕ, true, false, eqb, ltb, List, [], ◌∷◌, is_some, Some, None, Option, sym, refl, ap, ◌∙◌, subst, ⊎_elim}
use Rattle.std.proofs.lemmas.Option.{none-some}
use Rattle.std.specs.Option.{option_map, option_and_then as then}
use Rattle.std.specs.List.{ContainsAt as Has, AllByRecursion}
use Rattle.std.proofs.ByRecursion.{all-has, all_has_itself, All-weaker}
use Rattle.std.proofs.lemmas.Bool.{cases_Bool, ltb-true, lt-ltb, eqb-true, eqb-false, eq-eqb, and_parts, and_cases, cond-true, cond-false}
use Rattle.command_words.specs.declared.Verb.{Verb}
use Rattle.command_words.specs.declared.Verb.TheVariants.{Issue, Amend, Withdraw, Draw, Return}
use Rattle.command_words.specs.Fields.{Field, look, last_tag}
use Rattle.command_words.specs.LetterLaws.{verb_lettered}
use Rattle.command_words.specs.Format.{verb_letter, verbs_all, tags_of}
use Rattle.commands.specs.Steps.{alone, verb_named, worth}
use Rattle.commands.specs.Steps.Said.{verb}
use Rattle.commands.specs.Drafts.{any, belongs, may_come, draft_of}
use Rattle.commands.specs.Reading.{keeps}
use Rattle.commands.specs.Law.{VerbHas, Belongs, Keeps, Breaks, Lawful}
use Rattle.commands.specs.Law.Breaks.{not_rising, foreign, unfit}
use Rattle.commands.proofs.Tags.{by_tags, then_some, mapped_some, some_since}
use Rattle.commands.proofs.Fitting.{Tells, apart, fits_tells}
use Rattle.commands.proofs.Letters.{named_letter}

-- each field passed the test when it came
abbrev pub Kept : List Field → Type 0
Kept [] = Unit {0}
Kept (f ∷ before) = Kept before × (keeps before f ≡ true)

-- so each value is of its kind
pub sound : (fs : List Field) → Kept fs → (t : ℕ) (v : List ℕ) → look t fs ≡ Some v → is_some (worth t v) ≡ true
sound [] k t v e = absurd (none-some _ e)
sound (f ∷ before) k t v e =
    ⊎_elim
    (λ (same : eqb f.0 t ≡ true).
    let w = (and_parts (may_come (draft_of before) f.0) (is_some (worth f.0 f.1)) k.1).1 in
    let u : f.1 ≡ v = cc (sym (cond-true (eqb f.0 t) (Some f.1) (look t before) same) ∙ e) in
    let s : f.0 ≡ t = eqb-true f.0 t same in
    sym (λ i. is_some (worth (s i) (u i))) ∙ w)
    (λ (other : eqb f.0 t ≡ false). sound before k.0 t v (sym (cond-false (eqb f.0 t) (Some f.1) (look t before) other) ∙ e))
    (cases_Bool (eqb f.0 t))

pub alone_is : (v : List ℕ) (x : ℕ) → alone v ≡ Some x → v ≡ x ∷ []
alone_is [] x e = absurd (none-some _ e)
alone_is (y ∷ []) x e = let s : y ≡ x = cc in ap (λ z. z ∷ []) s
alone_is (y ∷ z ∷ r) x e = absurd (none-some _ e)

-- a verb that was read stands in its field
pub verb_stands : (v : List ℕ) (w : Verb) → then verb_named (alone v) ≡ Some w → v ≡ verb_letter w ∷ []
verb_stands v w e =
    let p = then_some verb_named (alone v) w e in
    alone_is v p.0 p.1 ∙ ap (λ z. z ∷ []) (named_letter verb_letter verbs_all p.0 w p.2)

-- the tags of a list
any_mine : (x : ℕ) (xs : List ℕ) → any (x ∷ xs) x ≡ true
any_mine x xs = cond-true (eqb x x) true (any xs x) (eq-eqb x x refl)

any_more : (x y : ℕ) (xs : List ℕ) → any xs y ≡ true → any (x ∷ xs) y ≡ true
any_more x y xs e = ⊎_elim (λ h. cond-true (eqb y x) true (any xs y) h) (λ h. cond-false (eqb y x) true (any xs y) h ∙ e) (cases_Bool (eqb y x))

any_all : (xs : List ℕ) → AllByRecursion (λ t. any xs t ≡ true) xs
any_all [] = tt
any_all (x ∷ xs) = (any_mine x xs, All-weaker (λ t. any xs t ≡ true) (λ t. any (x ∷ xs) t ≡ true) (λ t e. any_more x t xs e) xs (any_all xs))

pub has_any : (xs : List ℕ) (t : ℕ) → Has xs t → any xs t ≡ true
has_any xs t h = all-has (λ t. any xs t ≡ true) xs t (any_all xs) h

none_any : (xs : List ℕ) (t : ℕ) → AllByRecursion (λ k. eqb t k ≡ false) xs → any xs t ≡ false
none_any [] t o = refl
none_any (x ∷ xs) t o = cond-false (eqb t x) true (any xs t) o.0 ∙ none_any xs t o.1

pub any_has : (xs : List ℕ) (t : ℕ) → any xs t ≡ true → Has xs t
any_has xs t =
    by_tags (λ k. any xs k ≡ true → Has xs k) t xs
    (All-weaker (Has xs) (λ k. any xs k ≡ true → Has xs k) (λ k h e. h) xs (all_has_itself xs))
    (λ o e. absurd (apart (sym e ∙ none_any xs t o)))

-- every verb has a verb and a caller
pub first_tags : (w : Verb) → (any (tags_of w) 1 ≡ true) × (any (tags_of w) 2 ≡ true)
first_tags Issue = (refl, refl)
first_tags Amend = (refl, refl)
first_tags Withdraw = (refl, refl)
first_tags Draw = (refl, refl)
first_tags Return = (refl, refl)

-- tags that may come by the verb
has_tells : (xs : List ℕ) (t : ℕ) → Tells (any xs t) (Has xs t)
has_tells xs t = record { yes = any_has xs t; no = λ e h. apart (sym (has_any xs t h) ∙ e) }

verb_tells : (v : List ℕ) (w : Verb) → then verb_named (alone v) ≡ Some w → (t : ℕ) → Tells (belongs (Some w) t) (VerbHas (Some v) t)
verb_tells v w e t =
    record {
      yes = λ q. (w, verb_stands v w e, any_has (tags_of w) t q);
      no = λ q p.
          let s : Some w ≡ Some p.0 = sym e ∙ ap (λ (x : List ℕ). then verb_named (alone x)) p.1 ∙ verb_lettered p.0 in
          let u : w ≡ p.0 = cc in
          apart (sym (has_any (tags_of w) t (subst (λ (x : Verb). Has (tags_of x) t) (sym u) p.2)) ∙ q);
    }

pub belongs_tells : (o : Option (List ℕ)) → ((v : List ℕ) → o ≡ Some v → is_some (worth 1 v) ≡ true) → (t : ℕ)
    → Tells (belongs (then verb_named (then alone o)) t) (VerbHas o t)
belongs_tells None s t = record { yes = eqb-true t 1; no = eqb-false t 1 }
belongs_tells (Some v) s t =
    let p = some_since (option_map verb (then verb_named (alone v))) (s v refl) in
    let q = mapped_some verb (then verb_named (alone v)) p.0 p.1 in
    subst (λ (x : Option Verb). Tells (belongs x t) (VerbHas (Some v) t)) (sym q.1) (verb_tells v q.0 q.1 t)

module _ (before : List Field) (k : Kept before) (f : Field) where
  of_verb : Tells (belongs (draft_of before).verb f.0) (Belongs before f.0)
  of_verb = belongs_tells (look 1 before) (sound before k 1) f.0

  pub keeps_yes : keeps before f ≡ true → Keeps before f
  keeps_yes e =
      let p = and_parts (may_come (draft_of before) f.0) (is_some (worth f.0 f.1)) e in
      let q = and_parts (ltb (last_tag before) f.0) (belongs (draft_of before).verb f.0) p.0 in
      record { rises = ltb-true (last_tag before) f.0 q.0; belongs = of_verb.yes q.1; fits = (fits_tells f.1 f.0).yes p.1 }

  pub keeps_no : keeps before f ≡ false → Breaks before f
  keeps_no e =
      ⊎_elim
      (λ p. ⊎_elim
      (λ q. not_rising (λ r. apart (sym (lt-ltb (last_tag before) f.0 r) ∙ q)))
      (λ q. foreign (of_verb.no q))
      (and_cases (ltb (last_tag before) f.0) (belongs (draft_of before).verb f.0) p))
      (λ p. unfit ((fits_tells f.1 f.0).no p))
      (and_cases (may_come (draft_of before) f.0) (is_some (worth f.0 f.1)) e)

pub never_both : (before : List Field) (f : Field) → Breaks before f → Keeps before f → ⊥
never_both before f (not_rising n) k = n k.rises
never_both before f (foreign n) k = n k.belongs
never_both before f (unfit n) k = n k.fits

pub kept_lawful : (fs : List Field) → Kept fs → Lawful fs
kept_lawful [] k = tt
kept_lawful (f ∷ before) k = (kept_lawful before k.0, keeps_yes before k.0 f k.1)

pub keeps_since : (before : List Field) → Kept before → (f : Field) → Keeps before f → keeps before f ≡ true
keeps_since before k f h = ⊎_elim (λ e. e) (λ e. absurd (never_both before f (keeps_no before k f e) h)) (cases_Bool (keeps before f))

pub lawful_kept : (fs : List Field) → Lawful fs → Kept fs
lawful_kept [] l = tt
lawful_kept (f ∷ before) l = let k = lawful_kept before l.0 in (k, keeps_since before k f l.1)
