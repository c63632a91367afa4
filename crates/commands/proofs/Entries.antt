-- A state, one entry after another.
use Rattle.std.proofs.Common.{◌≡◌, ℕ, suc, ◌+◌, ◌*◌, ◌/◌, ◌%◌, ◌<◌, Bool, true, false, cond, eqb, ltb, List, [], ◌∷◌, length, get_or, drop, refl, ap, ◌∙◌, arith}
use Rattle.std.specs.Simd.{first_chunks}
use Rattle.std.proofs.Math.Seq.{drop-cons}
use Rattle.states.specs.declared.report.Report.{Report}
use Rattle.commands.specs.Steps.{rising, noted, reported}

-- what some entries tell
abbrev pub told_by : Report → List (List ℕ) → Report
told_by told [] = told
told_by told (e ∷ es) = told_by (noted told (get_or e 0 0) (get_or e 1 0 * 256 + get_or e 2 0)) es

-- their variables rise past `last`, up to 7
abbrev pub climbing : ℕ → List (List ℕ) → Bool
climbing last [] = true
climbing last (e ∷ es) = cond (ltb last (get_or e 0 0)) (cond (ltb (get_or e 0 0) 8) (climbing (get_or e 0 0) es) false) false

-- the entries of a state, and whether no bytes are left over
abbrev pub entries_in : List ℕ → List (List ℕ)
entries_in xs = first_chunks 3 (length xs / 3) xs

three_more : (n : ℕ) → suc (suc (suc n)) / 3 ≡ suc (n / 3)
three_more n = omega arith

three_over : (n : ℕ) → suc (suc (suc n)) % 3 ≡ n % 3
three_over n = omega arith

pub reported_by : (told : Report) (xs : List ℕ) → told_by told (entries_in xs) ≡ reported told xs
reported_by told [] = refl
reported_by told (v ∷ []) = refl
reported_by told (v ∷ h ∷ []) = refl
reported_by told (v ∷ h ∷ l ∷ r) =
    ap (λ k. told_by told (first_chunks 3 k (v ∷ h ∷ l ∷ r))) (three_more (length r)) ∙ reported_by (noted told v (h * 256 + l)) r

both : (a b c d e : Bool) → cond c d false ≡ e → cond (cond a (cond b c false) false) d false ≡ cond a (cond b e false) false
both true true c d e q = q
both true false c d e q = refl
both false b c d e q = refl

pub rising_by : (last : ℕ) (xs : List ℕ) → cond (climbing last (entries_in xs)) (eqb (length xs % 3) 0) false ≡ rising last xs
rising_by last [] = refl
rising_by last (v ∷ []) = refl
rising_by last (v ∷ h ∷ []) = refl
rising_by last (v ∷ h ∷ l ∷ r) =
    (λ i. cond (climbing last (first_chunks 3 (three_more (length r) i) (v ∷ h ∷ l ∷ r))) (eqb (three_over (length r) i) 0) false)
    ∙ both (ltb last v) (ltb v 8) (climbing v (entries_in r)) (eqb (length r % 3) 0) (rising v r) (rising_by v r)

-- one entry of those that are left
next_entry : (es : List (List ℕ)) (i : ℕ) → i < length es → drop i es ≡ get_or es i [] ∷ drop (i + 1) es
next_entry es i h = let s : suc i ≡ i + 1 = omega arith in drop-cons es i [] h ∙ ap (λ k. get_or es i [] ∷ drop k es) s

pub told_next : (told : Report) (es : List (List ℕ)) (i : ℕ) → i < length es
    → told_by told (drop i es) ≡ told_by (noted told (get_or (get_or es i []) 0 0) (get_or (get_or es i []) 1 0 * 256 + get_or (get_or es i []) 2 0)) (drop (i + 1) es)
told_next told es i h = ap (told_by told) (next_entry es i h)
