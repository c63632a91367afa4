-- The parts of a file are where the law says.
use Rattle.std.proofs.Common.{◌≡◌, ℕ, zero, suc, ◌+◌, ◌*◌, ◌/◌, ◌%◌, ◌<◌, ◌≤◌, min, Bool, true, false, cond, eqb, leb, List, [], ◌∷◌, ◌++◌, length, get_or, take, drop, Some, None, Ok, Option, sym, refl, ap, ◌∙◌, subst, inl, inr, append_assoc, append-nil, add-zero, div-add-mod', arith, length-append, take-append-drop}
use Rattle.std.proofs.lemmas.Option.{none-some}
use native.Mathlib.Nat.{min-eq_left, min-eq_right}
use Rattle.std.proofs.Math.Seq.{take-length, drop-length, take-append-add, drop-append-add}
use Rattle.std.specs.Option.{ok_or, option_and_then as then}
use Rattle.std.proofs.lemmas.Bool.{leb-false, eq-eqb, eqb-true, eqb-false, cond-true, cond-false}
use Rattle.command_words.specs.Fields.{Field, spell, spells}
use Rattle.commands.specs.Steps.{cut, alone}
use Rattle.commands.specs.Law.{ill}
use Rattle.commands.proofs.Walks.{cut_stands}
use Rattle.commands.proofs.Spelling.{Bytes}
use Rattle.commands.proofs.Sound.{alone_is}
use Rattle.commands.proofs.Making.{all_parts}
use Rattle.commands.proofs.Laws.{cut_spell, spelled, cut_short}
use Rattle.frames.specs.Frames.{tagged, field_of, set_in, condition_length, book_length, split, and_then, laid_out}
use Rattle.frames.specs.Law.{Conditions, Book, Framed}
use Rattle.frames.specs.Law.Book.{ended, cut_off}
use Rattle.frames.proofs.Books.{first_passed, none_there}
use Rattle.frames.proofs.Records.{found}

-- a field that is spelled is found, and one that is found is spelled
pub spell_found : (t : ℕ) (v rest : List ℕ) → field_of t (spell (t, v) ++ rest) ≡ Some (v, rest)
spell_found t v rest = ap (then (tagged t)) (cut_spell (t, v) rest) ∙ cond-true (eqb t t) (Some (v, rest)) None (eq-eqb t t refl)

pub found_spell : (t : ℕ) (bs v rest : List ℕ) → Bytes bs → field_of t bs ≡ Some (v, rest) → bs ≡ spell (t, v) ++ rest
found_spell t bs v rest b e = spelled bs (t, v) rest b (cut_stands bs ((t, v), rest) (found t bs v rest e))

-- ---- the book

-- a field C1 that is cut takes all bytes
none_cut : (t h l : ℕ) (r : List ℕ) → cut (t ∷ h ∷ l ∷ r) ≡ None → length r < h * 256 + l
none_cut t h l r e = go (leb (h * 256 + l) (length r)) refl e
  where
    go : (b : Bool) → leb (h * 256 + l) (length r) ≡ b → cond {A = Option (Field × List ℕ)} b (Some ((t, take (h * 256 + l) r), drop (h * 256 + l) r)) None ≡ None → length r < h * 256 + l
    go true k q = absurd (none-some _ (sym q))
    go false k q = leb-false (h * 256 + l) (length r) k

cut_takes_all : (bs : List ℕ) → cut (0xC1 ∷ bs) ≡ None → condition_length (0xC1 ∷ bs) ≡ length (0xC1 ∷ bs)
cut_takes_all [] e = let h : 1 ≤ 3 + (0 * 256 + 0) = omega arith in min-eq_left h
cut_takes_all (x ∷ []) e = let h : 2 ≤ 3 + (x * 256 + 0) = omega arith in min-eq_left h
cut_takes_all (x ∷ l ∷ r) e =
    let k = none_cut 0xC1 x l r e in
    let h : suc (suc (suc (length r))) ≤ 3 + (x * 256 + l) = omega (arith, k) in
    min-eq_left h

-- one that is whole takes its own
whole_takes : (h l : ℕ) (v rest : List ℕ) → length v ≡ h * 256 + l → condition_length (0xC1 ∷ h ∷ l ∷ (v ++ rest)) ≡ 3 + length v
whole_takes h l v rest e =
    let m = length-append v rest in
    let k : 3 + length v ≤ suc (suc (suc (length (v ++ rest)))) = omega (arith, m) in
    ap (λ n. min (suc (suc (suc (length (v ++ rest))))) (3 + n)) (sym e) ∙ min-eq_right k

pub none_left : book_length 0 [] ≡ 0
unfolding book_length
none_left = refl

-- how long the book is that begins with a whole field, or with a cut one
pub whole_long : (v rest : List ℕ) → book_length 0 (spell (0xC1, v) ++ rest) ≡ length (spell (0xC1, v)) + book_length 0 rest
whole_long v rest =
    let f = spell (0xC1, v) in
    let n : condition_length (spell (0xC1, v) ++ rest) ≡ length (spell (0xC1, v)) = whole_takes (length v / 256) (length v % 256) v rest (sym (div-add-mod' (length v) 256)) ∙ omega arith in
    let d : drop (length f) (f ++ rest) ≡ rest = ap (λ k. drop k (f ++ rest)) (sym (add-zero (length f))) ∙ drop-append-add f rest 0 in
    first_passed (f ++ rest) ∙ ap (λ k. k + book_length 0 (drop k (f ++ rest))) n ∙ ap (λ l. length f + book_length 0 l) d

pub cut_long : (bs : List ℕ) → cut (0xC1 ∷ bs) ≡ None → book_length 0 (0xC1 ∷ bs) ≡ length (0xC1 ∷ bs)
cut_long bs e =
    let xs = 0xC1 ∷ bs in
    first_passed xs ∙ ap (λ k. k + book_length 0 (drop k xs)) (cut_takes_all bs e) ∙ ap (λ l. length xs + book_length 0 l) (drop-length xs) ∙ ap (λ k. length xs + k) none_left ∙ add-zero (length xs)

-- the book at the front of some bytes, behind fields that were passed over
abbrev Booked : List Field → List ℕ → Type 0
Booked fs bs = Book (spells fs ++ take (book_length 0 bs) bs) (drop (book_length 0 bs) bs)

no_book : (fs : List Field) (bs : List ℕ) → Conditions fs → book_length 0 bs ≡ 0 → ((rest : List ℕ) → bs ≡ 0xC1 ∷ rest → ⊥) → Booked fs bs
no_book fs bs c z n =
    let P : ℕ → Type 0 = λ k. Book (spells fs ++ take k bs) (drop k bs) in
    subst P (sym z) (ended fs c (append-nil (spells fs)) n)

cut_book : (fs : List Field) (bs : List ℕ) → Conditions fs → cut (0xC1 ∷ bs) ≡ None → Booked fs (0xC1 ∷ bs)
cut_book fs bs c e =
    let xs = 0xC1 ∷ bs in
    let P : ℕ → Type 0 = λ k. Book (spells fs ++ take k xs) (drop k xs) in
    subst P (sym (cut_long bs e)) (cut_off fs bs c (ap (λ l. spells fs ++ l) (take-length xs)) (cut_short xs e) (drop-length xs))

more_book : (fs : List Field) (v rest : List ℕ) → Booked ((0xC1, v) ∷ fs) rest → Booked fs (spell (0xC1, v) ++ rest)
more_book fs v rest i =
    let f = spell (0xC1, v) in
    let k = book_length 0 rest in
    let P : ℕ → Type 0 = λ n. Book (spells fs ++ take n (f ++ rest)) (drop n (f ++ rest)) in
    let Q : List ℕ → Type 0 = λ l. Book l (drop k rest) in
    let R : List ℕ → Type 0 = λ l. Book (spells fs ++ (f ++ take k rest)) l in
    let S : List ℕ → Type 0 = λ l. Book (spells fs ++ l) (drop (length f + k) (f ++ rest)) in
    subst P (sym (whole_long v rest)) (subst S (sym (take-append-add f rest k)) (subst R (sym (drop-append-add f rest k)) (subst Q (append_assoc (spells fs) f (take k rest)) i)))

booked : (m : ℕ) (fs : List Field) (bs : List ℕ) → length bs ≤ m → Bytes bs → Conditions fs → Booked fs bs
booked m fs [] h b c = no_book fs [] c none_left (λ rest e. let z : ◌≡◌ {A = ℕ} 0 1 = cc in omega arith)
booked zero fs (x ∷ bs) h b c = absurd (omega arith)
booked (suc m) fs (x ∷ bs) h b c = by (booked m) (eqb x 0xC1) refl
  where
    by : ((gs : List Field) (ys : List ℕ) → length ys ≤ m → Bytes ys → Conditions gs → Booked gs ys) → (t : Bool) → eqb x 0xC1 ≡ t → Booked fs (x ∷ bs)
    by ih false e =
        no_book fs (x ∷ bs) c (none_there (x ∷ bs) (cond-false (eqb x 0xC1) (min (length (x ∷ bs)) (3 + (get_or bs 0 0 * 256 + get_or bs 1 0))) 0 e))
        (λ rest q. let same : x ≡ 0xC1 = cc in eqb-false x 0xC1 e same)
    by ih true e = at (cut (x ∷ bs)) refl
      where
        tag : x ≡ 0xC1
        tag = eqb-true x 0xC1 e

        at : (o : Option (Field × List ℕ)) → cut (x ∷ bs) ≡ o → Booked fs (x ∷ bs)
        at None q = subst (λ y. Booked fs (y ∷ bs)) (sym tag) (cut_book fs bs c (ap (λ y. cut (y ∷ bs)) (sym tag) ∙ q))
        at (Some ((t, v), rest)) q =
            let s = cut_stands (x ∷ bs) ((t, v), rest) q in
            let same : x ≡ t = ap (λ l. get_or l 0 0) s.is in
            let is : x ∷ bs ≡ spell (0xC1, v) ++ rest = spelled (x ∷ bs) (t, v) rest b s ∙ ap (λ y. spell (y, v) ++ rest) (sym same ∙ tag) in
            let l = ap length s.is in
            let n = length-append v rest in
            subst (Booked fs) (sym is) (more_book fs v rest (ih ((0xC1, v) ∷ fs) rest (omega (arith, l, n)) ((all_parts (spell (0xC1, v)) rest (subst Bytes is b)).1) (refl, c)))

-- ---- the frame

pub set_spell : (bs : List ℕ) (k : ℕ) (more : List ℕ) → Bytes bs → then set_in (field_of 0xF1 bs) ≡ Some (k, more) → bs ≡ spell (0xF1, k ∷ []) ++ more
set_spell bs k more b q = at (field_of 0xF1 bs) refl q
  where
    in_value : (v rest : List ℕ) → field_of 0xF1 bs ≡ Some (v, rest) → (o : Option ℕ) → alone v ≡ o → then {U = ℕ × List ℕ} (λ (n : ℕ). Some (n, rest)) o ≡ Some (k, more) → bs ≡ spell (0xF1, k ∷ []) ++ more
    in_value v rest e None a q = absurd (none-some _ q)
    in_value v rest e (Some n) a q =
        let same : ◌≡◌ {A = ℕ × List ℕ} (n, rest) (k, more) = cc in
        found_spell 0xF1 bs v rest b e ∙ ap (λ u. spell (0xF1, u) ++ rest) (alone_is v n a) ∙ ap (λ (p : ℕ × List ℕ). spell (0xF1, p.0 ∷ []) ++ p.1) same

    at : (o : Option (List ℕ × List ℕ)) → field_of 0xF1 bs ≡ o → then set_in o ≡ Some (k, more) → bs ≡ spell (0xF1, k ∷ []) ++ more
    at None e q = absurd (none-some _ q)
    at (Some (v, rest)) e q = in_value v rest e (alone v) refl q

pub framed : (file : List ℕ) → Bytes file → Framed file (laid_out file)
framed file b = at (field_of 0xF0 file) refl
  where
    behind : (v rest : List ℕ) → file ≡ spell (0xF0, v) ++ rest → (o : Option (ℕ × List ℕ)) → then set_in (field_of 0xF1 rest) ≡ o
        → Framed file (and_then (λ (k : ℕ × List ℕ). Ok (split v k)) (ok_or o (ill (3 + length v))))
    behind v rest is None e =
        let n : 3 + length v ≡ length (spell (0xF0, v)) = omega arith in
        inr (v, rest, is, ap ill n, λ set more q. none-some _ (sym e ∙ ap (λ l. then set_in (field_of 0xF1 l)) q ∙ ap (then set_in) (spell_found 0xF1 (set ∷ []) more)))
    behind v rest is (Some (k, more)) e =
        let c : Bytes rest = (all_parts (spell (0xF0, v)) rest (subst Bytes is b)).1 in
        let set : rest ≡ spell (0xF1, k ∷ []) ++ more = set_spell rest k more c e in
        let n = book_length 0 more in (
          is ∙ ap (λ l. spell (0xF0, v) ++ l) (set ∙ ap (λ l. spell (0xF1, k ∷ []) ++ l) (sym (take-append-drop n more))),
          booked (length more) [] more (omega arith) ((all_parts (spell (0xF1, k ∷ [])) more (subst Bytes set c)).1) tt,
        )

    at : (o : Option (List ℕ × List ℕ)) → field_of 0xF0 file ≡ o
        → Framed file (and_then (λ (o : List ℕ × List ℕ). and_then (λ (k : ℕ × List ℕ). Ok (split o.0 k)) (ok_or (then set_in (field_of 0xF1 o.1)) (ill (3 + length o.0)))) (ok_or o (ill 0)))
    at None e = inl (refl, λ owners rest q. none-some _ (sym e ∙ ap (field_of 0xF0) q ∙ spell_found 0xF0 owners rest))
    at (Some (v, rest)) e = behind v rest (found_spell 0xF0 file v rest b e) (then set_in (field_of 0xF1 rest)) refl
