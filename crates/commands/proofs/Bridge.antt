-- The draft that the reader holds is the draft of the fields read so far.
use Rattle.std.proofs.Common.{◌≡◌, ℕ, Bool, true, false, cond, ◌&&◌, List, ◌∷◌, is_some, Some, None, Option, sym, refl, ap, ◌∙◌}
use Rattle.std.proofs.lemmas.Option.{none-some, cond_some}
use Rattle.std.specs.Option.{option_map, option_and_then as then}
use Rattle.std.proofs.lemmas.Bool.{cond-true, cond-false, and_right}
use Rattle.commands.specs.declared.drafts.Draft.{Draft}
use Rattle.command_words.specs.Fields.{Field}
use Rattle.commands.specs.Steps.{cut, alone, pair, quad, verb_named, mode_named, outcome_named, rising, Said, tag_of, worth}
use Rattle.commands.specs.Steps.Said.{verb, caller, hook, grantee, execute, onward, mode, state, outcome, number}
use Rattle.commands.specs.Drafts.{noting, may_come, admitted, with_rest, taken_by, taken, draft_of}
use Rattle.commands.specs.Reading.{keeps, kept_by, next}
use Rattle.commands.proofs.Tags.{by_tags, tags, ten, worth_none, mapped_some}

mapped_cond : (b : Bool) (before : List Field) (f : Field) (rest : List ℕ)
    → option_map (with_rest rest) (cond b (Some (draft_of (f ∷ before))) None) ≡ cond (b && true) (Some (draft_of (f ∷ before), rest)) None
mapped_cond true before f rest = refl
mapped_cond false before f rest = refl

cond_none : {X Y : Type 0} (b : Bool) (x : X) (y : Y) → cond b (Some x) None ≡ None → cond b (Some y) None ≡ None
cond_none true x y e = absurd (none-some _ (sym e))
cond_none false x y e = refl

-- what a field says goes where its tag points
abbrev Noted : List Field → List ℕ → ℕ → Type 0
Noted before v t = (s : Said) → worth t v ≡ Some s → (tag_of s ≡ t) × (noting (draft_of before) s ≡ draft_of ((t, v) ∷ before))

module _ (before : List Field) (v : List ℕ) where
  by_said : {X : Type 0} (F : X → Said) (o : Option X) (t : ℕ) → ((x : X) → tag_of (F x) ≡ t)
      → ((x : X) → o ≡ Some x → noting (draft_of before) (F x) ≡ draft_of ((t, v) ∷ before))
      → (s : Said) → option_map F o ≡ Some s → (tag_of s ≡ t) × (noting (draft_of before) s ≡ draft_of ((t, v) ∷ before))
  by_said F o t tagged noted s e =
      let p = mapped_some F o s e in
      (ap tag_of p.2 ∙ tagged p.0, ap (noting (draft_of before)) p.2 ∙ noted p.0 p.1)

  state_said : Noted before v 8
  state_said s e =
      let p = cond_some (rising 1 v) (state v) s e in
      (ap tag_of (sym p.1), ap (noting (draft_of before)) (sym p.1))

  pub noted_at : (t : ℕ) → Noted before v t
  noted_at t =
      by_tags (Noted before v) t tags
      (ten (Noted before v)
      (by_said verb (then verb_named (alone v)) 1 (λ x. refl) (λ x e. rw e))
      (by_said caller (alone v) 2 (λ x. refl) (λ x e. rw e))
      (by_said hook (alone v) 3 (λ x. refl) (λ x e. rw e))
      (by_said grantee (alone v) 4 (λ x. refl) (λ x e. rw e))
      (by_said execute (pair v) 5 (λ x. refl) (λ x e. rw e))
      (by_said onward (pair v) 6 (λ x. refl) (λ x e. rw e))
      (by_said mode (then mode_named (alone v)) 7 (λ x. refl) (λ x e. rw e))
      state_said
      (by_said outcome (then outcome_named (alone v)) 9 (λ x. refl) (λ x e. rw e))
      (by_said number (quad v) 10 (λ x. refl) (λ x e. rw e)))
      (λ o s e. absurd (none-some _ (sym (worth_none t o v) ∙ e)))

-- a field that is understood is admitted if its tag may come
admitted_by : (before : List Field) (t : ℕ) (v : List ℕ) (s : Said) → worth t v ≡ Some s
    → admitted (draft_of before) s ≡ cond (may_come (draft_of before) t) (Some (draft_of ((t, v) ∷ before))) None
admitted_by before t v s e =
    let n = noted_at before v t s e in
    λ i. cond (may_come (draft_of before) (n.0 i)) (Some (n.1 i)) None

-- one step of the reader, the first field being known
stepped : (before : List Field) (f : Field) (rest : List ℕ) (o : Option Said) → worth f.0 f.1 ≡ o
    → then (λ (s : Said). option_map (with_rest rest) (admitted (draft_of before) s)) o
    ≡ cond (may_come (draft_of before) f.0 && is_some o) (Some (draft_of (f ∷ before), rest)) None
stepped before f rest None e = sym (cond-false (may_come (draft_of before) f.0 && false) (Some (draft_of (f ∷ before), rest)) None (and_right (may_come (draft_of before) f.0) false refl))
stepped before f rest (Some s) e = ap (option_map (with_rest rest)) (admitted_by before f.0 f.1 s e) ∙ mapped_cond (may_come (draft_of before) f.0) before f rest

-- a step that was taken: some field stands there that keeps the rules
pub record Took (before : List Field) (xs : List ℕ) (p : Draft × List ℕ) : Type 0 where
  pub field : Field
  pub cut_off_bytes : cut xs ≡ Some (field, p.1)
  pub kept : keeps before field ≡ true
  pub draft : p.0 ≡ draft_of (field ∷ before)

took_at : (before : List Field) (xs : List ℕ) (c : Option (Field × List ℕ)) → cut xs ≡ c → (p : Draft × List ℕ)
    → then (taken_by (draft_of before)) c ≡ Some p
    → Took before xs p
took_at before xs None e p q = absurd (none-some _ q)
took_at before xs (Some g) e p q =
    let w = cond_some (keeps before g.0) (draft_of (g.0 ∷ before), g.1) p (sym (stepped before g.0 g.1 (worth g.0.0 g.0.1) refl) ∙ q) in
    record {
      field = g.0;
      cut_off_bytes = e ∙ ap (λ (r : List ℕ). Some (g.0, r)) (ap (λ (x : Draft × List ℕ). x.1) w.1);
      kept = w.0;
      draft = sym (ap (λ (x : Draft × List ℕ). x.0) w.1);
    }

pub took : (before : List Field) (xs : List ℕ) (p : Draft × List ℕ) → taken (draft_of before) xs ≡ Some p → Took before xs p
took before xs p e = took_at before xs (cut xs) refl p e

-- where no step was taken, no field that keeps the rules comes next
stuck_at : (before : List Field) (c : Option (Field × List ℕ))
    → then (taken_by (draft_of before)) c ≡ None
    → then (kept_by before) c ≡ None
stuck_at before None q = refl
stuck_at before (Some g) q =
    cond_none (keeps before g.0) (draft_of (g.0 ∷ before), g.1) g.0 (sym (stepped before g.0 g.1 (worth g.0.0 g.0.1) refl) ∙ q)

pub stuck : (before : List Field) (xs : List ℕ) → taken (draft_of before) xs ≡ None → next before xs ≡ None
stuck before xs e = stuck_at before (cut xs) e

pub next_some : (before : List Field) (xs : List ℕ) (f : Field) (rest : List ℕ) → cut xs ≡ Some (f, rest) → keeps before f ≡ true → next before xs ≡ Some f
next_some before xs f rest e k =
    ap (then (kept_by before)) e ∙ cond-true (keeps before f) (Some f) None k
