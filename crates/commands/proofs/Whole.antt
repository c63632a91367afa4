-- A record that has every field of its command is what is written of it.
use Rattle.std.proofs.Common.{◌≡◌, ℕ, ◌<◌, ◌≤◌, true, false, eqb, List, [], ◌∷◌, Some, None, Option, sym, refl, ap, ◌∙◌, subst, ⊎_elim, append-nil, arith, lit<}
use Rattle.std.proofs.lemmas.Option.{none-some}
use Rattle.std.specs.Option.{option_or}
use Rattle.std.specs.List.{ContainsAt as Has, AllByRecursion}
use Rattle.std.proofs.ByRecursion.{all-has, all_has_itself, All-weaker}
use Rattle.std.proofs.lemmas.Bool.{cases_Bool, cond-true, cond-false, eqb-true, eq-eqb, ne_eqb, cases_eq}
use Rattle.command_words.specs.declared.Verb.{Verb}
use Rattle.command_words.specs.declared.Command.{Command}
use Rattle.command_words.specs.declared.Command.TheVariants as commands
use Rattle.command_words.specs.Fields.{Field, spells, look, last_tag}
use Rattle.command_words.specs.Format.{verb_of, verb_letter, tags_of, default_of, fields_of}
use Rattle.commands.specs.Drafts.{closed, draft_of}
use Rattle.commands.specs.Reading.{reading}
use Rattle.commands.specs.Law.{VerbHas, Lawful, says, Makes, WholeIsWritten}
use Rattle.commands.proofs.Tags.{ok_some}
use Rattle.commands.proofs.Walks.{walk_end}
use Rattle.commands.proofs.Sound.{lawful_kept, any_has, first_tags}
use Rattle.commands.proofs.Spelling.{Bytes}
use Rattle.commands.proofs.Making.{makes_since, said_look, same_verb, made_tags}
use Rattle.commands.proofs.Laws.{walk_over}

-- tags fall from the last field to the first
abbrev Falls : List Field → Type 0
Falls [] = Unit {0}
Falls (f ∷ before) = Falls before × (last_tag before < f.0)

lawful_falls : (fs : List Field) → Lawful fs → Falls fs
lawful_falls [] l = tt
lawful_falls (f ∷ before) l = (lawful_falls before l.0, l.1.rises)

-- a value that is found stands at most at the last tag
found_below : (fs : List Field) → Falls fs → (t : ℕ) (v : List ℕ) → look t fs ≡ Some v → t ≤ last_tag fs
found_below [] k t v e = absurd (none-some _ e)
found_below (f ∷ before) k t v e =
    ⊎_elim
    (λ (s : eqb f.0 t ≡ true). omega (arith, eqb-true f.0 t s))
    (λ (s : eqb f.0 t ≡ false).
    let h = found_below before k.0 t v (sym (cond-false (eqb f.0 t) (Some f.1) (look t before) s) ∙ e) in
    omega (arith, k.1))
    (cases_Bool (eqb f.0 t))

-- two lists whose tags fall and that say the same under every tag are one
abbrev Alike : List Field → List Field → Type 0
Alike fs gs = (t : ℕ) → look t fs ≡ look t gs

look_here : (f : Field) (fs : List Field) → look f.0 (f ∷ fs) ≡ Some f.1
look_here f fs = cond-true (eqb f.0 f.0) (Some f.1) (look f.0 fs) (eq-eqb f.0 f.0 refl)

look_past : (f : Field) (fs : List Field) (t : ℕ) → (f.0 ≡ t → ⊥) → look t (f ∷ fs) ≡ look t fs
look_past f fs t n = cond-false (eqb f.0 t) (Some f.1) (look t fs) (ne_eqb f.0 t n)

above_none : (fs : List Field) → Falls fs → (t : ℕ) → last_tag fs < t → (o : Option (List ℕ)) → look t fs ≡ o → o ≡ None
above_none fs k t h None e = refl
above_none fs k t h (Some v) e = absurd (omega (arith, found_below fs k t v e, h))

pub one_list : (fs gs : List Field) → Falls fs → Falls gs → Alike fs gs → fs ≡ gs
one_list [] [] p q a = refl
one_list [] (g ∷ gs) p q a = absurd (none-some _ (a g.0 ∙ look_here g gs))
one_list (f ∷ fs) [] p q a = absurd (none-some _ (sym (a f.0) ∙ look_here f fs))
one_list (f ∷ fs) (g ∷ gs) p q a =
    let down = found_below (g ∷ gs) q f.0 f.1 (sym (a f.0) ∙ look_here f fs) in
    let up = found_below (f ∷ fs) p g.0 g.1 (a g.0 ∙ look_here g gs) in
    let t : f.0 ≡ g.0 = omega (arith, down, up) in
    let s : Some f.1 ≡ Some g.1 = sym (look_here f fs) ∙ a f.0 ∙ ap (λ u. look u (g ∷ gs)) t ∙ look_here g gs in
    let v : f.1 ≡ g.1 = cc in
    (λ i. (t i, v i) ∷ one_list fs gs p.0 q.0 (below t) i)
  where
    below : f.0 ≡ g.0 → Alike fs gs
    below t u =
        ⊎_elim
        (λ (s : eqb f.0 u ≡ true).
        let e = eqb-true f.0 u s in
        above_none fs p.0 u (subst (λ x. last_tag fs < x) e p.1) (look u fs) refl
        ∙ sym (above_none gs q.0 u (subst (λ x. last_tag gs < x) (sym t ∙ e) q.1) (look u gs) refl))
        (λ (s : eqb f.0 u ≡ false).
        sym (cond-false (eqb f.0 u) (Some f.1) (look u fs) s) ∙ a u
        ∙ cond-false (eqb g.0 u) (Some g.1) (look u gs) (ap (λ x. eqb x u) (sym t) ∙ s))
        (cases_Bool (eqb f.0 u))

-- every tag of a record is one of its verb
first_alone : (before : List Field) → Falls before → last_tag before < 1 → before ≡ []
first_alone [] k h = refl
first_alone (f ∷ before) k h = absurd (omega (arith, k.1, h))

only_here : (f : Field) (t : ℕ) (v : List ℕ) → look t (f ∷ []) ≡ Some v → f.0 ≡ t
only_here f t v e =
    ⊎_elim
    (λ (s : eqb f.0 t ≡ true). eqb-true f.0 t s)
    (λ (s : eqb f.0 t ≡ false). absurd (none-some _ (sym (cond-false (eqb f.0 t) (Some f.1) None s) ∙ e)))
    (cases_Bool (eqb f.0 t))

has_first : (w : Verb) → Has (tags_of w) 1
has_first w = any_has (tags_of w) 1 (first_tags w).0

tag_of_verb : (w : Verb) (fs : List Field) → Lawful fs → look 1 fs ≡ Some (verb_letter w ∷ []) → (t : ℕ) (v : List ℕ) → look t fs ≡ Some v → Has (tags_of w) t
tag_of_verb w [] l e t v h = absurd (none-some _ h)
tag_of_verb w (f ∷ before) l e t v h =
    ⊎_elim
    (λ (one : f.0 ≡ 1).
    let alone : before ≡ [] = first_alone before (lawful_falls before l.0) (subst (λ x. last_tag before < x) one l.1.rises) in
    let only : look t (f ∷ []) ≡ Some v = ap (λ (b : List Field). look t (f ∷ b)) (sym alone) ∙ h in
    subst (Has (tags_of w)) (sym one ∙ only_here f t v only) (has_first w))
    (λ (other : f.0 ≡ 1 → ⊥).
    let e' : look 1 before ≡ Some (verb_letter w ∷ []) = sym (look_past f before 1 other) ∙ e in
    ⊎_elim
    (λ (s : f.0 ≡ t).
    let b = subst (λ (o : Option (List ℕ)). VerbHas o f.0) e' l.1.belongs in
    subst (Has (tags_of w)) s (subst (λ (x : Verb). Has (tags_of x) f.0) (same_verb w b.0 b.1) b.2))
    (λ (s : f.0 ≡ t → ⊥). tag_of_verb w before l.0 e' t v (sym (look_past f before t s) ∙ h))
    (cases_eq f.0 t))
    (cases_eq f.0 1)

-- the fields of a command
falls_of : (c : Command) → Falls (fields_of c)
falls_of (commands.Issue c h g terms) = ((((((((tt, lit< tt), lit< tt), lit< tt), lit< tt), lit< tt), lit< tt), lit< tt), lit< tt)
falls_of (commands.Amend c n terms) = (((((((tt, lit< tt), lit< tt), lit< tt), lit< tt), lit< tt), lit< tt), lit< tt)
falls_of (commands.Withdraw c n) = (((tt, lit< tt), lit< tt), lit< tt)
falls_of (commands.Draw c h r o) = (((((tt, lit< tt), lit< tt), lit< tt), lit< tt), lit< tt)
falls_of (commands.Return c h) = (((tt, lit< tt), lit< tt), lit< tt)

some_none : {X : Type 0} {x : X} → Some x ≡ None → ⊥
some_none e = none-some _ (sym e)

tags_in : (c : Command) → AllByRecursion (λ t. look t (fields_of c) ≡ None → ⊥) (tags_of (verb_of c))
tags_in (commands.Issue c h g terms) = (some_none, (some_none, (some_none, (some_none, (some_none, (some_none, (some_none, (some_none, tt))))))))
tags_in (commands.Amend c n terms) = (some_none, (some_none, (some_none, (some_none, (some_none, (some_none, (some_none, tt)))))))
tags_in (commands.Withdraw c n) = (some_none, (some_none, (some_none, tt)))
tags_in (commands.Draw c h r o) = (some_none, (some_none, (some_none, (some_none, (some_none, tt)))))
tags_in (commands.Return c h) = (some_none, (some_none, (some_none, tt)))

-- fields that are there say what they hold
present : (o d : Option (List ℕ)) (v : List ℕ) → option_or o d ≡ Some v → (o ≡ None → ⊥) → o ≡ Some v
present None d v e n = absurd (n refl)
present (Some u) d v e n = e

all_present : (fs gs : List Field) → AllByRecursion (λ (f : Field). says fs f.0 ≡ Some f.1) gs → AllByRecursion (λ (f : Field). look f.0 fs ≡ None → ⊥) gs
    → AllByRecursion (λ (f : Field). look f.0 fs ≡ Some f.1) gs
all_present fs [] m p = tt
all_present fs (g ∷ gs) m p = (present (look g.0 fs) (default_of g.0) g.1 m.0 p.0, all_present fs gs m.1 p.1)

found_there : (fs gs : List Field) → AllByRecursion (λ (f : Field). look f.0 fs ≡ Some f.1) gs → (t : ℕ) (v : List ℕ) → look t gs ≡ Some v → look t fs ≡ Some v
found_there fs [] a t v e = absurd (none-some _ e)
found_there fs (g ∷ gs) a t v e =
    ⊎_elim
    (λ (s : eqb g.0 t ≡ true). ap (λ x. look x fs) (sym (eqb-true g.0 t s)) ∙ a.0 ∙ sym (cond-true (eqb g.0 t) (Some g.1) (look t gs) s) ∙ e)
    (λ (s : eqb g.0 t ≡ false). found_there fs gs a.1 t v (sym (cond-false (eqb g.0 t) (Some g.1) (look t gs) s) ∙ e))
    (cases_Bool (eqb g.0 t))

module _ (fs : List Field) (l : Lawful fs) (c : Command) (made : Makes fs c) (a : AllByRecursion (λ (f : Field). look f.0 fs ≡ Some f.1) (fields_of c)) where
  verb_there : look 1 fs ≡ Some (verb_letter (verb_of c) ∷ [])
  verb_there = said_look (look 1 fs) (verb_letter (verb_of c) ∷ []) (made_tags fs c made).0

  not_there : (t : ℕ) → look t (fields_of c) ≡ None → (o : Option (List ℕ)) → look t fs ≡ o → o ≡ None
  not_there t n None e = refl
  not_there t n (Some v) e =
      absurd (all-has (λ u. look u (fields_of c) ≡ None → ⊥) (tags_of (verb_of c)) t (tags_in c) (tag_of_verb (verb_of c) fs l verb_there t v e) n)

  alike_at : (t : ℕ) (o : Option (List ℕ)) → look t (fields_of c) ≡ o → look t fs ≡ o
  alike_at t None e = not_there t e (look t fs) refl
  alike_at t (Some v) e = found_there fs (fields_of c) a t v e

  same_fields : fs ≡ fields_of c
  same_fields = one_list fs (fields_of c) (lawful_falls fs l) (falls_of c) (λ t. alike_at t (look t (fields_of c)) refl)

pub whole_written : (bs : List ℕ) → Bytes bs → WholeIsWritten bs (reading bs)
whole_written bs b fs c e l r full =
    let k = lawful_kept fs l in
    let read = sym (walk_over fs [] k ∙ walk_end fs _ [] refl) ∙ ap reading (append-nil (spells fs) ∙ sym e) ∙ r in
    let m = makes_since fs k (subst Bytes e b) c (ok_some (closed (draft_of fs)) _ c read) in
    let p = All-weaker (Has (fields_of c)) (λ (f : Field). look f.0 fs ≡ None → ⊥) (λ (f : Field) h. full f.0 f.1 h) (fields_of c) (all_has_itself (fields_of c)) in
    e ∙ ap spells (same_fields fs l c m (all_present fs (fields_of c) m p))
