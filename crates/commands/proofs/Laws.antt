-- The reading keeps the law, and nothing else does.
use Rattle.std.proofs.Common.{◌≡◌, ℕ, zero, suc, ◌+◌, ◌*◌, ◌/◌, ◌%◌, ◌<◌, ◌≤◌, Bool, true, false, List, [], ◌∷◌, ◌++◌, length, Some, None, Ok, Err, Option, Result, sym, refl, ap, ◌∙◌, subst, inl, inr, ⊎_elim, append_assoc, div-add-mod', arith, length-append}
use Rattle.std.proofs.lemmas.Option.{none-some}
use Rattle.std.specs.Option.{ok_or, option_and_then as then}
use Rattle.std.proofs.lemmas.List.{take_at, drop_at}
use Rattle.std.proofs.lemmas.Bool.{cases_Bool, cond-false, le-leb}
use Rattle.faults.specs.declared.Fault.{Fault}
use Rattle.command_words.specs.declared.Command.{Command}
use Rattle.command_words.specs.Fields.{Field, spell, spells}
use Rattle.commands.specs.Steps.{cut}
use Rattle.commands.specs.Drafts.{closed, draft_of}
use Rattle.commands.specs.Reading.{keeps, kept_by, next, walk, reading}
use Rattle.commands.specs.Law.{CutShort, Broken, Lacks, ill, Ends, Reads}
use Rattle.commands.proofs.Walks.{Stands, cut_stands, walk_some, walk_none, walk_end}
use Rattle.commands.proofs.Bridge.{next_some}
use Rattle.commands.proofs.Sound.{Kept, keeps_yes, keeps_no, never_both, kept_lawful, lawful_kept}
use Rattle.commands.proofs.Spelling.{Bytes}
use Rattle.commands.proofs.Making.{all_parts, makes_since, lacks_since, closed_since, lacks_nothing}

-- a field that was spelled is the first field
pub cut_spell : (f : Field) (more : List ℕ) → cut (spell f ++ more) ≡ Some (f, more)
cut_spell (t, v) more =
    let n : length v / 256 * 256 + length v % 256 ≡ length v = div-add-mod' (length v) 256 in
    let h : length v ≤ length (v ++ more) = omega (arith, length-append v more) in
    rw (n, le-leb (length v) (length (v ++ more)) h, take_at v more (length v) refl, drop_at v more (length v) refl)

-- and a first field that was found is spelled there
pub spelled : (xs : List ℕ) (f : Field) (rest : List ℕ) → Bytes xs → Stands xs f rest → xs ≡ spell f ++ rest
spelled xs f rest b s =
    let c : Bytes (f.0 ∷ s.hi ∷ s.lo ∷ (f.1 ++ rest)) = subst Bytes s.is b in
    let low : s.lo < 256 = c.1.1.0 in
    let h : length f.1 / 256 ≡ s.hi = omega (arith, s.long) in
    let l : length f.1 % 256 ≡ s.lo = omega (arith, s.long) in
    s.is ∙ (λ i. f.0 ∷ sym h i ∷ sym l i ∷ (f.1 ++ rest))

pub cut_short : (xs : List ℕ) → cut xs ≡ None → CutShort xs
cut_short xs e f more s = none-some _ (sym e ∙ ap cut s ∙ cut_spell f more)

stands_spell : (f : Field) (rest : List ℕ) → Stands (spell f ++ rest) f rest
stands_spell f rest = record { hi = length f.1 / 256; lo = length f.1 % 256; is = refl; long = sym (div-add-mod' (length f.1) 256) }

-- where a field is refused or cut, none is next
next_none : (before : List Field) (xs : List ℕ) → cut xs ≡ None → next before xs ≡ None
next_none before xs e = ap (then (kept_by before)) e

next_refused : (before : List Field) (xs : List ℕ) (f : Field) (rest : List ℕ) → cut xs ≡ Some (f, rest) → keeps before f ≡ false → next before xs ≡ None
next_refused before xs f rest e k = ap (then (kept_by before)) e ∙ cond-false (keeps before f) (Some f) None k

longer : (before : List Field) (f : Field) → length (spells before) + (3 + length f.1) ≡ length (spells (f ∷ before))
longer before f = sym (length-append (spells before) (spell f) ∙ omega arith)

module _ (bs : List ℕ) (byte : Bytes bs) where
  rest_bytes : (fs : List Field) (rest : List ℕ) → bs ≡ spells fs ++ rest → Bytes (spells fs) × Bytes rest
  rest_bytes fs rest e = all_parts (spells fs) rest (subst Bytes e byte)

  abbrev LawAt : ℕ → Type 0
  LawAt n = (fs : List Field) (rest : List ℕ) → length rest ≤ n → bs ≡ spells fs ++ rest → Kept fs → Reads bs (walk 0 fs (length (spells fs)) rest)

  law_end : (fs : List Field) → bs ≡ spells fs ++ [] → Kept fs → (o : Option Command) → closed (draft_of fs) ≡ o → Reads bs (ok_or o (ill (length (spells fs))))
  law_end fs e k None c = record { fields = fs; rest = []; split = e; lawful = kept_lawful fs k; ends = (refl, lacks_since fs k c) }
  law_end fs e k (Some made) c =
      record { fields = fs; rest = []; split = e; lawful = kept_lawful fs k; ends = makes_since fs k (rest_bytes fs [] e).0 made c }

  law_stop : (fs : List Field) (b : ℕ) (more : List ℕ) → bs ≡ spells fs ++ (b ∷ more) → Kept fs → Broken fs (b ∷ more) → next fs (b ∷ more) ≡ None
      → Reads bs (walk 0 fs (length (spells fs)) (b ∷ more))
  law_stop fs b more e k broken n =
      subst (Reads bs) (sym (walk_none fs (length (spells fs)) (b ∷ more) (omega arith) n))
      (record { fields = fs; rest = b ∷ more; split = e; lawful = kept_lawful fs k; ends = (refl, broken) })

  law_field : (n : ℕ) → LawAt n → (fs : List Field) (b : ℕ) (more : List ℕ) → length more ≤ n → bs ≡ spells fs ++ (b ∷ more) → Kept fs
      → (f : Field) (rest : List ℕ) → cut (b ∷ more) ≡ Some (f, rest) → (t : Bool) → keeps fs f ≡ t → Reads bs (walk 0 fs (length (spells fs)) (b ∷ more))
  law_field n ih fs b more h e k f rest c true t =
      let s = cut_stands (b ∷ more) (f, rest) c in
      let w : b ∷ more ≡ spell f ++ rest = spelled (b ∷ more) f rest (rest_bytes fs (b ∷ more) e).1 s in
      let m : length rest ≤ n = omega (arith, ap length w ∙ length-append (spell f) rest) in
      subst (Reads bs)
      (sym (walk_some fs (length (spells fs)) (b ∷ more) f rest s (next_some fs (b ∷ more) f rest c t) ∙ ap (λ (j : ℕ). walk 0 (f ∷ fs) j rest) (longer fs f)))
      (ih (f ∷ fs) rest m (e ∙ ap (λ (l : List ℕ). spells fs ++ l) w ∙ sym (append_assoc (spells fs) (spell f) rest)) (k, t))
  law_field n ih fs b more h e k f rest c false t =
      let s = cut_stands (b ∷ more) (f, rest) c in
      law_stop fs b more e k (inr (f, rest, spelled (b ∷ more) f rest (rest_bytes fs (b ∷ more) e).1 s, keeps_no fs k f t)) (next_refused fs (b ∷ more) f rest c t)

  law_cut : (n : ℕ) → LawAt n → (fs : List Field) (b : ℕ) (more : List ℕ) → length more ≤ n → bs ≡ spells fs ++ (b ∷ more) → Kept fs
      → (o : Option (Field × List ℕ)) → cut (b ∷ more) ≡ o → Reads bs (walk 0 fs (length (spells fs)) (b ∷ more))
  law_cut n ih fs b more h e k None c = law_stop fs b more e k (inl (cut_short (b ∷ more) c)) (next_none fs (b ∷ more) c)
  law_cut n ih fs b more h e k (Some p) c = law_field n ih fs b more h e k p.0 p.1 c (keeps fs p.0) refl

  law_by : (n : ℕ) → LawAt n
  law_by n fs [] h e k = subst (Reads bs) (sym (walk_end fs (length (spells fs)) [] refl)) (law_end fs e k (closed (draft_of fs)) refl)
  law_by zero fs (b ∷ more) h e k = absurd (omega arith)
  law_by (suc n) fs (b ∷ more) h e k = law_cut n (law_by n) fs b more (omega arith) e k (cut (b ∷ more)) refl

  pub reading_law : Reads bs (reading bs)
  reading_law = law_by (length bs) [] bs (omega arith) refl tt

-- fields that keep the rules are walked over
pub walk_over : (fs : List Field) (rest : List ℕ) → Kept fs → walk 0 [] 0 (spells fs ++ rest) ≡ walk 0 fs (length (spells fs)) rest
walk_over [] rest k = refl
walk_over (f ∷ before) rest k =
    ap (walk 0 [] 0) (append_assoc (spells before) (spell f) rest)
    ∙ walk_over before (spell f ++ rest) k.0
    ∙ walk_some before (length (spells before)) (spell f ++ rest) f rest (stands_spell f rest) (next_some before (spell f ++ rest) f rest (cut_spell f rest) k.1)
    ∙ ap (λ (j : ℕ). walk 0 (f ∷ before) j rest) (longer before f)

-- a field that breaks a rule was not kept
broken_none : (before : List Field) → Kept before → (xs : List ℕ) → Bytes xs → Broken before xs → next before xs ≡ None
broken_none before k xs b (inl short) = short_none (cut xs) refl
  where
    short_none : (o : Option (Field × List ℕ)) → cut xs ≡ o → next before xs ≡ None
    short_none None e = next_none before xs e
    short_none (Some p) e = absurd (short p.0 p.1 (spelled xs p.0 p.1 b (cut_stands xs p e)))
broken_none before k xs b (inr (f, more, e, breaks)) =
    next_refused before xs f more (ap cut e ∙ cut_spell f more)
    (⊎_elim (λ (t : keeps before f ≡ true). absurd (never_both before f breaks (keeps_yes before k f t))) (λ (t : keeps before f ≡ false). t) (cases_Bool (keeps before f)))

closed_none : (fs : List Field) → Kept fs → Bytes (spells fs) → Lacks fs → (o : Option Command) → closed (draft_of fs) ≡ o → o ≡ None
closed_none fs k b l None e = refl
closed_none fs k b l (Some made) e = absurd (lacks_nothing fs made (makes_since fs k b made e) l)

ends_walk : (fs : List Field) → Kept fs → Bytes (spells fs) → (rest : List ℕ) → Bytes rest → (r : Result Command Fault) → Ends fs rest r
    → r ≡ walk 0 fs (length (spells fs)) rest
ends_walk fs k b [] c (Ok made) e = sym (walk_end fs (length (spells fs)) [] refl ∙ ap (λ (o : Option Command). ok_or o (ill (length (spells fs)))) (closed_since fs made e))
ends_walk fs k b [] c (Err f) e =
    ap (λ (g : Fault). Err g) e.0
    ∙ sym (walk_end fs (length (spells fs)) [] refl ∙ ap (λ (o : Option Command). ok_or o (ill (length (spells fs)))) (closed_none fs k b e.1 (closed (draft_of fs)) refl))
ends_walk fs k b (x ∷ xs) c (Ok made) e = absurd e
ends_walk fs k b (x ∷ xs) c (Err f) e =
    ap (λ (g : Fault). Err g) e.0 ∙ sym (walk_none fs (length (spells fs)) (x ∷ xs) (omega arith) (broken_none fs k (x ∷ xs) c e.1))

-- there is one reading and no other
pub reading_only : (bs : List ℕ) → Bytes bs → (r : Result Command Fault) → Reads bs r → r ≡ reading bs
reading_only bs b r p =
    let k = lawful_kept p.fields p.lawful in
    let parts = all_parts (spells p.fields) p.rest (subst Bytes p.split b) in
    ends_walk p.fields k parts.0 p.rest parts.1 r p.ends
    ∙ sym (walk_over p.fields p.rest k) ∙ sym (ap reading p.split)
