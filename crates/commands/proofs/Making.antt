-- The command that fields make, and the field that is missing where they make none.
use Rattle.std.proofs.Common.{◌≡◌, ℕ, true, false, cond, eqb, ◌⊎◌, List, [], ◌∷◌, ◌++◌, is_some, Some, None, Option, unwrap_or, sym, refl, ap, ◌∙◌, subst, inl, inr, ⊎_elim}
use Rattle.std.proofs.lemmas.Option.{none-some, cond_some}
use Rattle.std.specs.Option.{option_map, option_or, option_and_then as then}
use Rattle.std.specs.List.{ContainsAt as Has, AllByRecursion}
use Rattle.std.proofs.ByRecursion.{all-has}
use Rattle.std.proofs.lemmas.Bool.{cases_Bool, cond-true, cond-false}
use Rattle.states.specs.declared.report.Report.{Report}
use Rattle.grants.specs.declared.Mode.{Mode}
use Rattle.grants.specs.declared.Mode.TheVariants.{Expiring}
use Rattle.grants.specs.declared.terms.Terms.{Terms}
use Rattle.command_words.specs.declared.Outcome.{Outcome}
use Rattle.command_words.specs.declared.Verb.{Verb}
use Rattle.command_words.specs.declared.Verb.TheVariants as verbs
use Rattle.command_words.specs.declared.Command.{Command}
use Rattle.command_words.specs.declared.Command.TheVariants as commands
use Rattle.commands.specs.declared.drafts.Draft.{Draft}
use Rattle.command_words.specs.Fields.{Field, spell, spells, look}
use Rattle.command_words.specs.LetterLaws.{verb_lettered, mode_lettered, outcome_lettered}
use Rattle.command_words.specs.Format.{verb_of, verb_letter, mode_letter, modes_all, outcome_letter, outcomes_all, tags_of, default_of, pair_of, quad_of, entries}
use Rattle.commands.specs.Steps.{alone, pair, quad, verb_named, mode_named, outcome_named, unknown, reported, rising, Said, worth}
use Rattle.commands.specs.Steps.Said.{verb, caller, hook, grantee, execute, onward, mode, state, outcome, number}
use Rattle.commands.specs.Drafts.{any, terms_with, terms_in, closed, closed_by, draft_of}
use Rattle.commands.specs.Law.{VerbHas, says, Makes, Lacks}
use Rattle.commands.proofs.Tags.{then_some, mapped_some, some_since}
use Rattle.commands.proofs.Fitting.{apart, rising_tells}
use Rattle.commands.proofs.Letters.{named_letter}
use Rattle.commands.proofs.Sound.{Kept, sound, verb_stands, alone_is, any_has, first_tags}
use Rattle.commands.proofs.Spelling.{Bytes, pair_again, quad_again, pair_stands, quad_stands, report_stands, reported_again}

-- letters
named_mode : (l : ℕ) (m : Mode) → mode_named l ≡ Some m → l ≡ mode_letter m
named_mode = named_letter mode_letter modes_all

named_outcome : (l : ℕ) (o : Outcome) → outcome_named l ≡ Some o → l ≡ outcome_letter o
named_outcome = named_letter outcome_letter outcomes_all

pub all_parts : (xs ys : List ℕ) → Bytes (xs ++ ys) → Bytes xs × Bytes ys
all_parts [] ys b = (tt, b)
all_parts (x ∷ xs) ys b = let p = all_parts xs ys b.1 in ((b.0, p.0), p.1)

then_none : {X Y : Type 0} {F : X → Option Y} (o : Option X) → then F o ≡ None → (o ≡ None) ⊎ ((x : X) × (o ≡ Some x) × (F x ≡ None))
then_none None e = inl refl
then_none (Some x) e = inr (x, refl, e)

mapped_none : {X Y : Type 0} (F : X → Y) (o : Option X) → option_map F o ≡ None → o ≡ None
mapped_none F None e = refl
mapped_none F (Some x) e = absurd (none-some _ (sym e))

-- the bytes under a tag are bytes
look_bytes : (fs : List Field) → Bytes (spells fs) → (t : ℕ) (v : List ℕ) → look t fs ≡ Some v → Bytes v
look_bytes [] b t v e = absurd (none-some _ e)
look_bytes (f ∷ before) b t v e =
    let p = all_parts (spells before) (spell f) b in
    ⊎_elim
    (λ (same : eqb f.0 t ≡ true).
    let u : f.1 ≡ v = cc (sym (cond-true (eqb f.0 t) (Some f.1) (look t before) same) ∙ e) in
    subst Bytes u p.1.1.1.1)
    (λ (other : eqb f.0 t ≡ false). look_bytes before p.0 t v (sym (cond-false (eqb f.0 t) (Some f.1) (look t before) other) ∙ e))
    (cases_Bool (eqb f.0 t))

module _ (fs : List Field) (k : Kept fs) where
  -- a slot of the draft is empty only where the field is missing
  missing_at : {X : Type 0} (t : ℕ) (slot : Option (List ℕ) → Option X) (F : X → Said) → ((v : List ℕ) → worth t v ≡ option_map F (slot (Some v)))
      → (o : Option (List ℕ)) → look t fs ≡ o → slot o ≡ None → look t fs ≡ None
  missing_at t slot F w None e n = e
  missing_at t slot F w (Some v) e n =
      absurd (apart (sym (sound fs k t v e) ∙ ap (λ (s : Option Said). is_some s) (w v) ∙ ap (λ x. is_some (option_map F x)) n))

  missing : {X : Type 0} (t : ℕ) (slot : Option (List ℕ) → Option X) (F : X → Said) → ((v : List ℕ) → worth t v ≡ option_map F (slot (Some v)))
      → slot (look t fs) ≡ None → look t fs ≡ None
  missing t slot F w n = missing_at t slot F w (look t fs) refl n

  lacking : (w : Verb) → (draft_of fs).verb ≡ Some w → (t : ℕ) → any (tags_of w) t ≡ true → default_of t ≡ None → look t fs ≡ None → Lacks fs
  lacking w e t h d n =
      let p = then_some verb_named (then alone (look 1 fs)) w e in
      let q = then_some alone (look 1 fs) p.0 p.1 in
      let s = verb_stands q.0 w (ap (then verb_named) q.2 ∙ p.2) in
      (t, subst (λ (o : Option (List ℕ)). VerbHas o t) (sym q.1) (w, s, any_has (tags_of w) t h), ap (λ (o : Option (List ℕ)). option_or o (default_of t)) n ∙ d)

  hook_missing : (draft_of fs).hook ≡ None → look 3 fs ≡ None
  hook_missing = missing 3 (then alone) hook (λ v. refl)

  number_missing : (draft_of fs).number ≡ None → look 10 fs ≡ None
  number_missing = missing 10 (then quad) number (λ v. refl)

  report_missing : (o : Option (List ℕ)) → option_map (reported unknown) o ≡ None → o ≡ None
  report_missing None e = refl
  report_missing (Some v) e = absurd (none-some _ (sym e))

  terms_missing : terms_in (draft_of fs) ≡ None → look 8 fs ≡ None
  terms_missing e = report_missing (look 8 fs) (mapped_none (terms_with (draft_of fs)) (draft_of fs).report e)

  -- which field is missing, verb by verb
  lacks_by : (w : Verb) → (draft_of fs).verb ≡ Some w → (c : ℕ) → closed_by (draft_of fs) c w ≡ None → Lacks fs
  lacks_by verbs.Issue e c n =
      ⊎_elim (λ h. lacking verbs.Issue e 3 refl refl (hook_missing h))
      (λ h. ⊎_elim (λ g. lacking verbs.Issue e 4 refl refl (missing 4 (then alone) grantee (λ v. refl) g))
      (λ g. lacking verbs.Issue e 8 refl refl (terms_missing (mapped_none (λ t. commands.Issue c h.0 g.0 t) (terms_in (draft_of fs)) g.2)))
      (then_none (draft_of fs).grantee h.2))
      (then_none (draft_of fs).hook n)
  lacks_by verbs.Amend e c n =
      ⊎_elim (λ h. lacking verbs.Amend e 10 refl refl (number_missing h))
      (λ h. lacking verbs.Amend e 8 refl refl (terms_missing (mapped_none (λ t. commands.Amend c h.0 t) (terms_in (draft_of fs)) h.2)))
      (then_none (draft_of fs).number n)
  lacks_by verbs.Withdraw e c n = lacking verbs.Withdraw e 10 refl refl (number_missing (mapped_none (λ n. commands.Withdraw c n) (draft_of fs).number n))
  lacks_by verbs.Draw e c n =
      ⊎_elim (λ h. lacking verbs.Draw e 3 refl refl (hook_missing h))
      (λ h. ⊎_elim (λ g. lacking verbs.Draw e 8 refl refl (report_missing (look 8 fs) g))
      (λ g. lacking verbs.Draw e 9 refl refl (missing 9 (λ o. then outcome_named (then alone o)) outcome (λ v. refl) (mapped_none (λ o. commands.Draw c h.0 g.0 o) (draft_of fs).outcome g.2)))
      (then_none (draft_of fs).report h.2))
      (then_none (draft_of fs).hook n)
  lacks_by verbs.Return e c n = lacking verbs.Return e 3 refl refl (hook_missing (mapped_none (λ h. commands.Return c h) (draft_of fs).hook n))

  no_verb : look 1 fs ≡ None → Lacks fs
  no_verb n = (1, subst (λ (o : Option (List ℕ)). VerbHas o 1) (sym n) refl, ap (λ (o : Option (List ℕ)). option_or o None) n)

  pub lacks_since : closed (draft_of fs) ≡ None → Lacks fs
  lacks_since n =
      ⊎_elim (λ h. no_verb (missing 1 (λ o. then verb_named (then alone o)) verb (λ v. refl) h))
      (λ h. ⊎_elim (λ g. lacking h.0 h.1 2 (first_tags h.0).1 refl (missing 2 (then alone) caller (λ v. refl) g))
      (λ g. lacks_by h.0 h.1 g.0 g.2)
      (then_none (draft_of fs).caller h.2))
      (then_none (draft_of fs).verb n)

-- what is said under a tag, slot by slot
says_look : (fs : List Field) (t : ℕ) (v : List ℕ) → look t fs ≡ Some v → says fs t ≡ Some v
says_look fs t v e = ap (λ (o : Option (List ℕ)). option_or o (default_of t)) e

module _ (fs : List Field) (k : Kept fs) (b : Bytes (spells fs)) where
  verb_says : (w : Verb) → (draft_of fs).verb ≡ Some w → says fs 1 ≡ Some (verb_letter w ∷ [])
  verb_says w e =
      let p = then_some verb_named (then alone (look 1 fs)) w e in
      let q = then_some alone (look 1 fs) p.0 p.1 in
      says_look fs 1 _ (q.1 ∙ ap (λ (v : List ℕ). Some v) (verb_stands q.0 w (ap (then verb_named) q.2 ∙ p.2)))

  byte_says : (t x : ℕ) → then alone (look t fs) ≡ Some x → says fs t ≡ Some (x ∷ [])
  byte_says t x e = let p = then_some alone (look t fs) x e in says_look fs t _ (p.1 ∙ ap (λ (v : List ℕ). Some v) (alone_is p.0 x p.2))

  outcome_says : (o : Outcome) → (draft_of fs).outcome ≡ Some o → says fs 9 ≡ Some (outcome_letter o ∷ [])
  outcome_says o e =
      let p = then_some outcome_named (then alone (look 9 fs)) o e in
      byte_says 9 p.0 p.1 ∙ ap (λ x. Some (x ∷ [])) (named_outcome p.0 o p.2)

  number_says : (n : ℕ) → (draft_of fs).number ≡ Some n → says fs 10 ≡ Some (quad_of n)
  number_says n e =
      let p = then_some quad (look 10 fs) n e in
      says_look fs 10 _ (p.1 ∙ ap (λ (v : List ℕ). Some v) (quad_stands p.0 n (look_bytes fs b 10 p.0 p.1) p.2))

  report_says : (r : Report) → (draft_of fs).report ≡ Some r → says fs 8 ≡ Some (entries r)
  report_says r e =
      let p = mapped_some (reported unknown) (look 8 fs) r e in
      let q = some_since (cond (rising 1 p.0) (Some (state p.0)) None) (sound fs k 8 p.0 p.1) in
      let s = cond_some (rising 1 p.0) (state p.0) q.0 q.1 in
      let u = report_stands p.0 ((rising_tells 1 p.0).yes s.0) (look_bytes fs b 8 p.0 p.1) in
      says_look fs 8 _ (p.1 ∙ ap (λ (v : List ℕ). Some v) (sym u ∙ ap entries (sym p.2)))

  -- a number of two bytes, or what its absence means
  pair_says : (o : Option (List ℕ)) (d : ℕ) → ((v : List ℕ) → o ≡ Some v → (is_some (pair v) ≡ true) × Bytes v)
      → option_or o (Some (pair_of d)) ≡ Some (pair_of (unwrap_or (then pair o) d))
  pair_says None d h = refl
  pair_says (Some v) d h =
      let p = some_since (pair v) (h v refl).0 in
      ap (λ (x : List ℕ). Some x) (pair_stands v p.0 (h v refl).1 p.1) ∙ ap (λ (x : Option ℕ). Some (pair_of (unwrap_or x d))) (sym p.1)

  is_pair : (F : ℕ → Said) (o : Option ℕ) → is_some (option_map F o) ≡ true → is_some o ≡ true
  is_pair F None e = e
  is_pair F (Some n) e = refl

  execute_says : says fs 5 ≡ Some (pair_of (draft_of fs).execute)
  execute_says = pair_says (look 5 fs) 0 (λ v e. (is_pair execute (pair v) (sound fs k 5 v e), look_bytes fs b 5 v e))

  onward_says : says fs 6 ≡ Some (pair_of (draft_of fs).onward)
  onward_says = pair_says (look 6 fs) 1 (λ v e. (is_pair onward (pair v) (sound fs k 6 v e), look_bytes fs b 6 v e))

  mode_at : (o : Option (List ℕ)) → look 7 fs ≡ o → option_or o (Some (69 ∷ [])) ≡ Some (mode_letter (unwrap_or (then mode_named (then alone o)) Expiring) ∷ [])
  mode_at None e = refl
  mode_at (Some v) e =
      let p = some_since (option_map mode (then mode_named (alone v))) (sound fs k 7 v e) in
      let q = mapped_some mode (then mode_named (alone v)) p.0 p.1 in
      let s = then_some mode_named (alone v) q.0 q.1 in
      ap (λ (x : List ℕ). Some x) (alone_is v s.0 s.1 ∙ ap (λ x. x ∷ []) (named_mode s.0 q.0 s.2))
      ∙ ap (λ (x : Option Mode). Some (mode_letter (unwrap_or x Expiring) ∷ [])) (sym q.1)

  mode_says : says fs 7 ≡ Some (mode_letter (draft_of fs).mode ∷ [])
  mode_says = mode_at (look 7 fs) refl

  makes_by : (w : Verb) → (draft_of fs).verb ≡ Some w → (c : ℕ) → (draft_of fs).caller ≡ Some c → (made : Command) → closed_by (draft_of fs) c w ≡ Some made → Makes fs made
  makes_by verbs.Issue e c h made m =
      let p = then_some _ (draft_of fs).hook made m in
      let q = then_some _ (draft_of fs).grantee made p.2 in
      let r = mapped_some (λ t. commands.Issue c p.0 q.0 t) (terms_in (draft_of fs)) made q.2 in
      let t = mapped_some (terms_with (draft_of fs)) (draft_of fs).report r.0 r.1 in
      subst (Makes fs) (sym (r.2 ∙ ap (λ t. commands.Issue c p.0 q.0 t) t.2))
      (report_says t.0 t.1, (mode_says, (onward_says, (execute_says, (byte_says 4 q.0 q.1, (byte_says 3 p.0 p.1, (byte_says 2 c h, (verb_says verbs.Issue e, tt))))))))
  makes_by verbs.Amend e c h made m =
      let p = then_some _ (draft_of fs).number made m in
      let r = mapped_some (λ t. commands.Amend c p.0 t) (terms_in (draft_of fs)) made p.2 in
      let t = mapped_some (terms_with (draft_of fs)) (draft_of fs).report r.0 r.1 in
      subst (Makes fs) (sym (r.2 ∙ ap (λ t. commands.Amend c p.0 t) t.2))
      (number_says p.0 p.1, (report_says t.0 t.1, (mode_says, (onward_says, (execute_says, (byte_says 2 c h, (verb_says verbs.Amend e, tt)))))))
  makes_by verbs.Withdraw e c h made m =
      let r = mapped_some (λ n. commands.Withdraw c n) (draft_of fs).number made m in
      subst (Makes fs) (sym r.2) (number_says r.0 r.1, (byte_says 2 c h, (verb_says verbs.Withdraw e, tt)))
  makes_by verbs.Draw e c h made m =
      let p = then_some _ (draft_of fs).hook made m in
      let q = then_some _ (draft_of fs).report made p.2 in
      let r = mapped_some (λ o. commands.Draw c p.0 q.0 o) (draft_of fs).outcome made q.2 in
      subst (Makes fs) (sym r.2)
      (outcome_says r.0 r.1, (report_says q.0 q.1, (byte_says 3 p.0 p.1, (byte_says 2 c h, (verb_says verbs.Draw e, tt)))))
  makes_by verbs.Return e c h made m =
      let r = mapped_some (λ x. commands.Return c x) (draft_of fs).hook made m in
      subst (Makes fs) (sym r.2) (byte_says 3 r.0 r.1, (byte_says 2 c h, (verb_says verbs.Return e, tt)))

  pub makes_since : (made : Command) → closed (draft_of fs) ≡ Some made → Makes fs made
  makes_since made m =
      let p = then_some _ (draft_of fs).verb made m in
      let q = then_some _ (draft_of fs).caller made p.2 in
      makes_by p.0 p.1 q.0 q.1 made q.2

-- what is said goes into the draft
pub said_look : (o : Option (List ℕ)) (v : List ℕ) → option_or o None ≡ Some v → o ≡ Some v
said_look None v e = absurd (none-some _ e)
said_look (Some u) v e = e

module _ (fs : List Field) where
  verb_told : (w : Verb) → says fs 1 ≡ Some (verb_letter w ∷ []) → (draft_of fs).verb ≡ Some w
  verb_told w e = ap (λ (o : Option (List ℕ)). then verb_named (then alone o)) (said_look (look 1 fs) _ e) ∙ verb_lettered w

  caller_told : (x : ℕ) → says fs 2 ≡ Some (x ∷ []) → (draft_of fs).caller ≡ Some x
  caller_told x e = ap (then alone) (said_look (look 2 fs) _ e)

  hook_told : (x : ℕ) → says fs 3 ≡ Some (x ∷ []) → (draft_of fs).hook ≡ Some x
  hook_told x e = ap (then alone) (said_look (look 3 fs) _ e)

  grantee_told : (x : ℕ) → says fs 4 ≡ Some (x ∷ []) → (draft_of fs).grantee ≡ Some x
  grantee_told x e = ap (then alone) (said_look (look 4 fs) _ e)

  pair_told : (o : Option (List ℕ)) (d n : ℕ) → option_or o (Some (pair_of d)) ≡ Some (pair_of n) → unwrap_or (then pair o) d ≡ n
  pair_told None d n e =
      let q : Some d ≡ Some n = sym (pair_again d) ∙ ap (then pair) e ∙ pair_again n in cc
  pair_told (Some v) d n e = ap (λ (x : Option ℕ). unwrap_or x d) (ap (then pair) e ∙ pair_again n)

  mode_told : (o : Option (List ℕ)) (m : Mode) → option_or o (Some (69 ∷ [])) ≡ Some (mode_letter m ∷ []) → unwrap_or (then mode_named (then alone o)) Expiring ≡ m
  mode_told None m e =
      let q : Some Expiring ≡ Some m = ap (λ (o : Option (List ℕ)). then mode_named (then alone o)) e ∙ mode_lettered m in cc
  mode_told (Some v) m e = ap (λ (x : Option Mode). unwrap_or x Expiring) (ap (λ (o : Option (List ℕ)). then mode_named (then alone o)) e ∙ mode_lettered m)

  report_told : (r : Report) → says fs 8 ≡ Some (entries r) → (draft_of fs).report ≡ Some r
  report_told r e = ap (option_map (reported unknown)) (said_look (look 8 fs) _ e) ∙ ap (λ (x : Report). Some x) (reported_again r)

  outcome_told : (o : Outcome) → says fs 9 ≡ Some (outcome_letter o ∷ []) → (draft_of fs).outcome ≡ Some o
  outcome_told o e = ap (λ (x : Option (List ℕ)). then outcome_named (then alone x)) (said_look (look 9 fs) _ e) ∙ outcome_lettered o

  number_told : (n : ℕ) → says fs 10 ≡ Some (quad_of n) → (draft_of fs).number ≡ Some n
  number_told n e = ap (then quad) (said_look (look 10 fs) _ e) ∙ quad_again n

-- a draft with every field of its verb
module _ (d : Draft) (c : ℕ) (told : d.caller ≡ Some c) where
  terms_told : (terms : Terms) → d.execute ≡ terms.execute → d.onward ≡ terms.onward → d.mode ≡ terms.mode → d.report ≡ Some terms.report → terms_in d ≡ Some terms
  terms_told terms x y m r = rw (r, x, y, m)

  close_issue : (h g : ℕ) (terms : Terms) → d.verb ≡ Some verbs.Issue → d.hook ≡ Some h → d.grantee ≡ Some g → terms_in d ≡ Some terms → closed d ≡ Some (commands.Issue c h g terms)
  close_issue h g terms v e f t = rw (v, told, e, f, t)

  close_amend : (n : ℕ) (terms : Terms) → d.verb ≡ Some verbs.Amend → d.number ≡ Some n → terms_in d ≡ Some terms → closed d ≡ Some (commands.Amend c n terms)
  close_amend n terms v e t = rw (v, told, e, t)

  close_withdraw : (n : ℕ) → d.verb ≡ Some verbs.Withdraw → d.number ≡ Some n → closed d ≡ Some (commands.Withdraw c n)
  close_withdraw n v e = rw (v, told, e)

  close_draw : (h : ℕ) (r : Report) (o : Outcome) → d.verb ≡ Some verbs.Draw → d.hook ≡ Some h → d.report ≡ Some r → d.outcome ≡ Some o → closed d ≡ Some (commands.Draw c h r o)
  close_draw h r o v e f g = rw (v, told, e, f, g)

  close_return : (h : ℕ) → d.verb ≡ Some verbs.Return → d.hook ≡ Some h → closed d ≡ Some (commands.Return c h)
  close_return h v e = rw (v, told, e)

pub closed_since : (fs : List Field) (made : Command) → Makes fs made → closed (draft_of fs) ≡ Some made
closed_since fs (commands.Issue c h g terms) (t8, (t7, (t6, (t5, (t4, (t3, (t2, (t1, done)))))))) =
    close_issue (draft_of fs) c (caller_told fs c t2) h g terms (verb_told fs verbs.Issue t1) (hook_told fs h t3) (grantee_told fs g t4)
    (terms_told (draft_of fs) c (caller_told fs c t2) terms (pair_told fs (look 5 fs) 0 terms.execute t5) (pair_told fs (look 6 fs) 1 terms.onward t6) (mode_told fs (look 7 fs) terms.mode t7) (report_told fs terms.report t8))
closed_since fs (commands.Amend c n terms) (t10, (t8, (t7, (t6, (t5, (t2, (t1, done))))))) =
    close_amend (draft_of fs) c (caller_told fs c t2) n terms (verb_told fs verbs.Amend t1) (number_told fs n t10)
    (terms_told (draft_of fs) c (caller_told fs c t2) terms (pair_told fs (look 5 fs) 0 terms.execute t5) (pair_told fs (look 6 fs) 1 terms.onward t6) (mode_told fs (look 7 fs) terms.mode t7) (report_told fs terms.report t8))
closed_since fs (commands.Withdraw c n) (t10, (t2, (t1, done))) =
    close_withdraw (draft_of fs) c (caller_told fs c t2) n (verb_told fs verbs.Withdraw t1) (number_told fs n t10)
closed_since fs (commands.Draw c h r o) (t9, (t8, (t3, (t2, (t1, done))))) =
    close_draw (draft_of fs) c (caller_told fs c t2) h r o (verb_told fs verbs.Draw t1) (hook_told fs h t3) (report_told fs r t8) (outcome_told fs o t9)
closed_since fs (commands.Return c h) (t3, (t2, (t1, done))) =
    close_return (draft_of fs) c (caller_told fs c t2) h (verb_told fs verbs.Return t1) (hook_told fs h t3)

-- a command that was made lacks nothing
abbrev SaidAt : List Field → ℕ → Type 0
SaidAt fs t = says fs t ≡ None → ⊥

said_at : (fs : List Field) (t : ℕ) (v : List ℕ) → says fs t ≡ Some v → SaidAt fs t
said_at fs t v e n = none-some _ (sym n ∙ e)

pub made_tags : (fs : List Field) (made : Command) → Makes fs made → (says fs 1 ≡ Some (verb_letter (verb_of made) ∷ [])) × AllByRecursion (SaidAt fs) (tags_of (verb_of made))
made_tags fs (commands.Issue c h g terms) (t8, (t7, (t6, (t5, (t4, (t3, (t2, (t1, done)))))))) =
    (t1, (said_at fs 1 _ t1, (said_at fs 2 _ t2, (said_at fs 3 _ t3, (said_at fs 4 _ t4, (said_at fs 5 _ t5, (said_at fs 6 _ t6, (said_at fs 7 _ t7, (said_at fs 8 _ t8, tt)))))))))
made_tags fs (commands.Amend c n terms) (t10, (t8, (t7, (t6, (t5, (t2, (t1, done))))))) =
    (t1, (said_at fs 1 _ t1, (said_at fs 2 _ t2, (said_at fs 5 _ t5, (said_at fs 6 _ t6, (said_at fs 7 _ t7, (said_at fs 8 _ t8, (said_at fs 10 _ t10, tt))))))))
made_tags fs (commands.Withdraw c n) (t10, (t2, (t1, done))) = (t1, (said_at fs 1 _ t1, (said_at fs 2 _ t2, (said_at fs 10 _ t10, tt))))
made_tags fs (commands.Draw c h r o) (t9, (t8, (t3, (t2, (t1, done))))) =
    (t1, (said_at fs 1 _ t1, (said_at fs 2 _ t2, (said_at fs 3 _ t3, (said_at fs 8 _ t8, (said_at fs 9 _ t9, tt))))))
made_tags fs (commands.Return c h) (t3, (t2, (t1, done))) = (t1, (said_at fs 1 _ t1, (said_at fs 2 _ t2, (said_at fs 3 _ t3, tt))))

pub same_verb : (v w : Verb) → verb_letter v ∷ [] ≡ verb_letter w ∷ [] → w ≡ v
same_verb v w e =
    let q : Some w ≡ Some v = sym (verb_lettered w) ∙ ap (λ (l : List ℕ). then verb_named (alone l)) (sym e) ∙ verb_lettered v in cc

pub lacks_nothing : (fs : List Field) (made : Command) → Makes fs made → Lacks fs → ⊥
lacks_nothing fs made m (t, h, n) =
    let p = made_tags fs made m in
    let has = subst (λ (o : Option (List ℕ)). VerbHas o t) (said_look (look 1 fs) (verb_letter (verb_of made) ∷ []) p.0) h in
    let u : has.0 ≡ verb_of made = same_verb (verb_of made) has.0 has.1 in
    all-has (SaidAt fs) (tags_of (verb_of made)) t p.1 (subst (λ (w : Verb). Has (tags_of w) t) u has.2) n
