-- A value says something exactly if it is of the kind of its tag.
use Rattle.std.proofs.Common.{◌≡◌, ℕ, ◌<◌, Bool, true, false, cond, eqb, ltb, List, [], ◌∷◌, length, is_some, Some, None, Option, sym, refl, ap, ◌∙◌, subst, arith}
use Rattle.std.specs.Option.{option_map, option_and_then as then}
use Rattle.std.specs.List.{ContainsAt as Has, AllByRecursion}
use Rattle.std.proofs.ByRecursion.{all-has, all_has_itself, All-weaker}
use Rattle.std.proofs.lemmas.Bool.{ltb-true, lt-ltb}
use Rattle.command_words.specs.Format.{verb_letter, verbs_all, mode_letter, modes_all, outcome_letter, outcomes_all, Kind, kind_of}
use Rattle.command_words.specs.Format.Kind.{letter}
use Rattle.commands.specs.Steps.{alone, pair, quad, verb_named, mode_named, outcome_named, rising, Said, worth}
use Rattle.commands.specs.Steps.Said.{verb, caller, hook, grantee, execute, onward, mode, state, outcome, number}
use Rattle.commands.specs.Law.{Entries, Fits}
use Rattle.commands.proofs.Letters.{named_none}
use Rattle.commands.proofs.Tags.{by_tags, tags, ten, worth_none, kind_unknown}

-- a test tells whether a fact holds
pub record Tells (b : Bool) (P : Type 0) : Type 0 where
  pub yes : b ≡ true → P
  pub no : b ≡ false → P → ⊥

pub apart : true ≡ false → ⊥
apart e = let z : ◌≡◌ {A = ℕ} 0 1 = cc in omega arith

pub holds : {P : Type 0} → P → Tells true P
holds p = record { yes = λ e. p; no = λ e q. apart e }

pub fails : {P : Type 0} → (P → ⊥) → Tells false P
fails n = record { yes = λ e. absurd (apart (sym e)); no = λ e. n }

module _ (F : ℕ → Said) where
  one_fits : (v : List ℕ) → Tells (is_some (option_map F (alone v))) (length v ≡ 1)
  one_fits [] = fails (λ e. omega arith)
  one_fits (x ∷ []) = holds refl
  one_fits (x ∷ y ∷ r) = fails (λ e. omega arith)

  two_fits : (v : List ℕ) → Tells (is_some (option_map F (pair v))) (length v ≡ 2)
  two_fits [] = fails (λ e. omega arith)
  two_fits (x ∷ []) = fails (λ e. omega arith)
  two_fits (x ∷ y ∷ []) = holds refl
  two_fits (x ∷ y ∷ z ∷ r) = fails (λ e. omega arith)

  four_fits : (v : List ℕ) → Tells (is_some (option_map F (quad v))) (length v ≡ 4)
  four_fits [] = fails (λ e. omega arith)
  four_fits (x ∷ []) = fails (λ e. omega arith)
  four_fits (x ∷ y ∷ []) = fails (λ e. omega arith)
  four_fits (x ∷ y ∷ z ∷ []) = fails (λ e. omega arith)
  four_fits (x ∷ y ∷ z ∷ w ∷ []) = holds refl
  four_fits (x ∷ y ∷ z ∷ w ∷ u ∷ r) = fails (λ e. omega arith)

-- letters
is_mapped : {X : Type 0} (F : X → Said) (o : Option X) → is_some (option_map F o) ≡ is_some o
is_mapped F None = refl
is_mapped F (Some x) = refl

module _ {X : Type 0} (F : X → Said) (named : ℕ → Option X) (letters : List ℕ) (known : AllByRecursion (λ l. is_some (named l) ≡ true) letters)
    (only : (l : ℕ) → AllByRecursion (λ k. eqb l k ≡ false) letters → named l ≡ None) where
  named_has : (l : ℕ) → is_some (named l) ≡ true → Has letters l
  named_has l =
      by_tags (λ k. is_some (named k) ≡ true → Has letters k) l letters
      (All-weaker (Has letters) (λ k. is_some (named k) ≡ true → Has letters k) (λ k h e. h) letters (all_has_itself letters))
      (λ o e. absurd (apart (sym e ∙ ap (λ (x : Option X). is_some x) (only l o))))

  letter_of : (l : ℕ) (b : Bool) → is_some (option_map F (named l)) ≡ b → Tells b (Fits (letter letters) (l ∷ []))
  letter_of l true e = holds (l, refl, named_has l (sym (is_mapped F (named l)) ∙ e))
  letter_of l false e = fails (λ p.
      let s : l ≡ p.0 = cc p.1 in
      apart (sym (all-has (λ k. is_some (named k) ≡ true) letters l known (subst (Has letters) (sym s) p.2)) ∙ sym (is_mapped F (named l)) ∙ e))

  letter_fits : (v : List ℕ) → Tells (is_some (option_map F (then named (alone v)))) (Fits (letter letters) v)
  letter_fits [] = fails (λ p. let z : ◌≡◌ {A = ℕ} 0 1 = cc p.1 in omega arith)
  letter_fits (l ∷ []) = letter_of l (is_some (option_map F (named l))) refl
  letter_fits (x ∷ y ∷ r) = fails (λ p. let z : ◌≡◌ {A = ℕ} 0 1 = cc p.1 in omega arith)

-- states
entry_tells : (last v : ℕ) (rest : List ℕ) (a b : Bool) → ltb last v ≡ a → ltb v 8 ≡ b → Tells (rising v rest) (Entries v rest)
    → Tells (cond a (cond b (rising v rest) false) false) ((last < v) × (v < 8) × Entries v rest)
entry_tells last v rest true true e f t =
    record { yes = λ q. (ltb-true last v e, ltb-true v 8 f, t.yes q); no = λ q p. t.no q p.2 }
entry_tells last v rest true false e f t = fails (λ p. apart (sym (lt-ltb v 8 p.1) ∙ f))
entry_tells last v rest false b e f t = fails (λ p. apart (sym (lt-ltb last v p.0) ∙ e))

pub rising_tells : (last : ℕ) (v : List ℕ) → Tells (rising last v) (Entries last v)
rising_tells last [] = holds tt
rising_tells last (v ∷ []) = fails (λ p. p)
rising_tells last (v ∷ h ∷ []) = fails (λ p. p)
rising_tells last (v ∷ h ∷ l ∷ r) = entry_tells last v r (ltb last v) (ltb v 8) refl refl (rising_tells v r)

some_state : (b : Bool) (s : Said) → is_some (cond b (Some s) None) ≡ b
some_state true s = refl
some_state false s = refl

-- every tag
abbrev FitsAt : List ℕ → ℕ → Type 0
FitsAt v t = Tells (is_some (worth t v)) (Fits (kind_of t) v)

pub fits_tells : (v : List ℕ) (t : ℕ) → FitsAt v t
fits_tells v t =
    by_tags (FitsAt v) t tags
    (ten (FitsAt v)
    (letter_fits verb verb_named (73 ∷ 65 ∷ 87 ∷ 68 ∷ 82 ∷ []) (refl, (refl, (refl, (refl, (refl, tt))))) (named_none verb_letter verbs_all) v)
    (one_fits caller v)
    (one_fits hook v)
    (one_fits grantee v)
    (two_fits execute v)
    (two_fits onward v)
    (letter_fits mode mode_named (69 ∷ 82 ∷ []) (refl, (refl, tt)) (named_none mode_letter modes_all) v)
    (subst (λ (b : Bool). Tells b (Entries 1 v)) (sym (some_state (rising 1 v) (state v))) (rising_tells 1 v))
    (letter_fits outcome outcome_named (84 ∷ 76 ∷ []) (refl, (refl, tt)) (named_none outcome_letter outcomes_all) v)
    (four_fits number v))
    (λ o. record {
      yes = λ e. absurd (apart (sym e ∙ ap (λ (s : Option Said). is_some s) (worth_none t o v)));
      no = λ e. subst (λ (k : Kind). Fits k v → ⊥) (sym (kind_unknown t o)) (λ p. p);
    })
