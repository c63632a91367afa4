-- Bytes written one behind another.
use Rattle.std.proofs.Common.{◌≡◌, ℕ, zero, suc, ◌-◌, ◌≤◌, List, [], ◌∷◌, ◌++◌, length, take, Some, None, Option, sym, refl, ap, ◌∙◌, append_assoc, append-nil, arith, lit≤, length-append}
use native.Mathlib.Nat.{sub-zero}
use Rattle.std.proofs.Math.Seq.{take-nil}
use Rattle.states.specs.declared.report.Report.{Report}
use Rattle.command_words.specs.declared.Command.{Command}
use Rattle.command_words.specs.declared.Command.TheVariants.{Issue, Amend, Withdraw, Draw, Return}
use Rattle.command_words.specs.Fields.{Field, spell, spells}
use Rattle.command_words.specs.Format.{entry_of, entries, wire}
use Rattle.command_writer.specs.Pens.{puts, penned}

take_more_of : (n : ℕ) (xs ys : List ℕ) → take n (xs ++ ys) ≡ take n xs ++ take (n - length (take n xs)) ys
take_more_of zero xs ys = refl
take_more_of (suc n) [] ys = sym (ap (λ m. take m ys) (sub-zero (suc n)))
take_more_of (suc n) (x ∷ xs) ys =
    let e : n - length (take n xs) ≡ suc n - suc (length (take n xs)) = omega arith in
    ap (λ (l : List ℕ). x ∷ l) (take_more_of n xs ys ∙ ap (λ m. take n xs ++ take m ys) e)

pub puts_none : (p : List ℕ) → p ≡ puts p []
puts_none p = sym (ap (λ (l : List ℕ). p ++ l) (take-nil (64 - length p)) ∙ append-nil p)

-- one run of bytes behind another
pub puts-++ : (p xs ys : List ℕ) → puts (puts p xs) ys ≡ puts p (xs ++ ys)
puts-++ p xs ys =
    let k = 64 - length p in
    let t = take (64 - length p) xs in
    let e : 64 - length (p ++ take (64 - length p) xs) ≡ k - length (take (64 - length p) xs) = omega (arith, length-append p t) in
    append_assoc p t (take (64 - length (p ++ t)) ys) ∙ ap (λ (m : ℕ). p ++ (t ++ take m ys)) e ∙ sym (ap (λ (l : List ℕ). p ++ l) (take_more_of k xs ys))

pub on : (p : List ℕ) {q r : List ℕ} (a b : List ℕ) → q ≡ puts p a → r ≡ puts q b → r ≡ puts p (a ++ b)
on p a b e f = f ∙ ap (λ (x : List ℕ). puts x b) e ∙ puts-++ p a b

-- fields one behind another are their bytes
pub penned_spells : (p : List ℕ) (fs : List Field) → penned p fs ≡ puts p (spells fs)
penned_spells p [] = puts_none p
penned_spells p (f ∷ before) = ap (λ (q : List ℕ). puts q (spell f)) (penned_spells p before) ∙ puts-++ p (spells before) (spell f)

-- no command is longer than 64 bytes
entry_short : (v : ℕ) (o : Option ℕ) → length (entry_of v o) ≤ 3
entry_short v None = lit≤ tt
entry_short v (Some n) = lit≤ tt

pub entries_short : (r : Report) → length (entries r) ≤ 18
entries_short r =
    let a = entry_short 2 r.time in
    let b = entry_short 3 r.day in
    let c = entry_short 4 r.groups in
    let d = entry_short 5 r.path in
    let e = entry_short 6 r.level in
    let f = entry_short 7 r.status in
    simp length-append (omega arith)

pub wire_short : (c : Command) → length (wire c) ≤ 64
wire_short (Issue c h g t) = simp length-append (omega (arith, simp length-append at (entries_short t.report)))
wire_short (Amend c n t) = simp length-append (omega (arith, simp length-append at (entries_short t.report)))
wire_short (Withdraw c n) = lit≤ tt
wire_short (Draw c h r o) = simp length-append (omega (arith, simp length-append at (entries_short r)))
wire_short (Return c h) = lit≤ tt
