-- The law of the frame has one answer only.
use Rattle.std.proofs.Common.{◌≡◌, ℕ, ◌+◌, ◌*◌, min, eqb, List, [], ◌∷◌, ◌++◌, length, get_or, take, drop, Some, None, Ok, Err, Option, Result, sym, refl, ap, ◌∙◌, subst, inl, inr, append_assoc, append-nil, add-zero, add_assoc, zero-add, arith, length-append, take_at, drop_at}
use Rattle.std.specs.Option.{ok_or, option_and_then as then}
use Rattle.std.proofs.lemmas.Bool.{cond-false, ne_eqb}
use Rattle.faults.specs.declared.Fault.{Fault}
use Rattle.command_words.specs.Fields.{Field, spell, spells}
use Rattle.commands.specs.Steps.{cut}
use Rattle.commands.specs.Law.{CutShort, ill}
use Rattle.commands.proofs.Walks.{cut_stands}
use Rattle.commands.proofs.Spelling.{Bytes}
use Rattle.commands.proofs.Making.{all_parts}
use Rattle.commands.proofs.Laws.{spelled}
use Rattle.frames.specs.Frames.{Parts, field_of, set_in, book_length, split, and_then, laid_out}
use Rattle.frames.specs.Law.{Conditions, Book, Framed}
use Rattle.frames.specs.Law.Book.{ended, cut_off}
use Rattle.frames.proofs.Books.{none_there}
use Rattle.frames.proofs.Framing.{spell_found, found_spell, none_left, whole_long, cut_long, set_spell}

-- ---- how long a book is

fields_long : (fs : List Field) (rest : List ℕ) → Conditions fs → book_length 0 (spells fs ++ rest) ≡ length (spells fs) + book_length 0 rest
fields_long [] rest c = sym (zero-add (book_length 0 rest))
fields_long (f ∷ before) rest c =
    let s = spells before in
    let m : book_length 0 (spell f ++ rest) ≡ length (spell f) + book_length 0 rest = ap (λ t. book_length 0 (spell (t, f.1) ++ rest)) c.0 ∙ whole_long f.1 rest in
    let n = length-append s (spell f) in
    ap (book_length 0) (append_assoc s (spell f) rest) ∙ fields_long before (spell f ++ rest) c.1 ∙ ap (λ k. length s + k) m
    ∙ sym (add_assoc (length s) (length (spell f)) (book_length 0 rest)) ∙ ap (λ k. k + book_length 0 rest) (sym n)

none_behind : (bs : List ℕ) → ((rest : List ℕ) → bs ≡ 0xC1 ∷ rest → ⊥) → book_length 0 bs ≡ 0
none_behind [] n = none_left
none_behind (x ∷ bs) n =
    none_there (x ∷ bs) (cond-false (eqb x 0xC1) (min (length (x ∷ bs)) (3 + (get_or bs 0 0 * 256 + get_or bs 1 0))) 0 (ne_eqb x 0xC1 (λ e. n bs (ap (λ y. y ∷ bs) e))))

no_cut : (bs : List ℕ) → Bytes bs → CutShort bs → cut bs ≡ None
no_cut bs b short = go (cut bs) refl
  where
    go : (o : Option (Field × List ℕ)) → cut bs ≡ o → o ≡ None
    go None e = refl
    go (Some (f, rest)) e = absurd (short f rest (spelled bs f rest b (cut_stands bs (f, rest) e)))

bytes_of : (book behind : List ℕ) → Bytes (book ++ behind) → Bytes book
bytes_of [] behind b = tt
bytes_of (x ∷ book) behind b = (b.0, bytes_of book behind b.1)

book_long : (book behind : List ℕ) → Bytes (book ++ behind) → Book book behind → book_length 0 (book ++ behind) ≡ length book
book_long book behind b (ended fs c is n) =
    ap (λ l. book_length 0 (l ++ behind)) is ∙ fields_long fs behind c ∙ ap (λ k. length (spells fs) + k) (none_behind behind n) ∙ add-zero (length (spells fs)) ∙ sym (ap length is)
book_long book behind b (cut_off fs last c is short none) =
    let xs = 0xC1 ∷ last in
    let small : Bytes xs = (all_parts (spells fs) xs (subst Bytes is (bytes_of book behind b))).1 in
    ap (λ l. book_length 0 (book ++ l)) none ∙ ap (book_length 0) (append-nil book ∙ is) ∙ fields_long fs xs c
    ∙ ap (λ k. length (spells fs) + k) (cut_long last (no_cut xs small short)) ∙ sym (length-append (spells fs) xs) ∙ sym (ap length is)

-- ---- the answer

split_only : (p : Parts) → Bytes (p.book ++ p.commands) → Book p.book p.commands → split p.owners (p.kept, p.book ++ p.commands) ≡ p
split_only p b k =
    let n = book_long p.book p.commands b k in
    let t = ap (λ m. take m (p.book ++ p.commands)) n ∙ take_at p.book p.commands (length p.book) refl in
    let d = ap (λ m. drop m (p.book ++ p.commands)) n ∙ drop_at p.book p.commands (length p.book) refl in
    λ i. record { owners = p.owners; kept = p.kept; book = t i; commands = d i }

-- what is answered of a file, by what stands at its front and behind that
abbrev second : List ℕ → Option (ℕ × List ℕ) → Result Parts Fault
second v o = and_then (λ (k : ℕ × List ℕ). Ok (split v k)) (ok_or o (ill (3 + length v)))

abbrev first : Option (List ℕ × List ℕ) → Result Parts Fault
first o = and_then (λ (o : List ℕ × List ℕ). and_then (λ (k : ℕ × List ℕ). Ok (split o.0 k)) (ok_or (then set_in (field_of 0xF1 o.1)) (ill (3 + length o.0)))) (ok_or o (ill 0))

pub framed_only : (file : List ℕ) → Bytes file → (q : Result Parts Fault) → Framed file q → q ≡ laid_out file
framed_only file b (Ok p) f =
    let tail = spell (0xF1, p.kept ∷ []) ++ (p.book ++ p.commands) in
    let c : Bytes (p.book ++ p.commands) = (all_parts (spell (0xF1, p.kept ∷ [])) (p.book ++ p.commands) (all_parts (spell (0xF0, p.owners)) tail (subst Bytes f.0 b)).1).1 in
    let set = ap (then set_in) (spell_found 0xF1 (p.kept ∷ []) (p.book ++ p.commands)) in
    sym (ap laid_out f.0 ∙ ap first (spell_found 0xF0 p.owners tail) ∙ ap (second p.owners) set ∙ ap (λ (x : Parts). Ok x) (split_only p c f.1))
framed_only file b (Err e) (inl f) = ap (λ (x : Fault). Err x) f.0 ∙ ap first (sym (none (field_of 0xF0 file) refl))
  where
    none : (o : Option (List ℕ × List ℕ)) → field_of 0xF0 file ≡ o → field_of 0xF0 file ≡ None
    none None q = q
    none (Some (v, rest)) q = absurd (f.1 v rest (found_spell 0xF0 file v rest b q))
framed_only file b (Err e) (inr f) =
    let v = f.0 in
    let rest = f.1 in
    let c : Bytes f.1 = (all_parts (spell (0xF0, f.0)) f.1 (subst Bytes f.2 b)).1 in
    let n : length (spell (0xF0, f.0)) ≡ 3 + length f.0 = omega arith in
    ap (λ (x : Fault). Err x) (f.3 ∙ ap ill n)
    ∙ sym (ap laid_out f.2 ∙ ap first (spell_found 0xF0 v rest) ∙ ap (second v) (none c (then set_in (field_of 0xF1 rest)) refl))
  where
    none : Bytes f.1 → (o : Option (ℕ × List ℕ)) → then set_in (field_of 0xF1 f.1) ≡ o → then set_in (field_of 0xF1 f.1) ≡ None
    none c None q = q
    none c (Some (k, more)) q = absurd (f.4 k more (set_spell f.1 k more c q))
