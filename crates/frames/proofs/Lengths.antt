-- The commands of a file are a part of it.
use Rattle.std.proofs.Common.{◌≡◌, ℕ, ◌+◌, ◌≤◌, List, length, Some, None, Ok, Err, Option, refl, ap, arith, length-append, length-drop}
use Rattle.std.specs.Option.{ok_or, option_and_then as then}
use Rattle.faults.specs.declared.Fault.{Fault}
use Rattle.commands.specs.Steps.{alone}
use Rattle.commands.specs.Law.{ill}
use Rattle.commands.proofs.Walks.{cut_stands}
use Rattle.frames.specs.Frames.{Parts, field_of, set_in, book_length, split, and_then, laid_out}
use Rattle.frames.proofs.Records.{found}

err_ok : {A : Type 0} {e : Fault} {a : A} → Err e ≡ Ok a → ⊥
err_ok q = let z : ◌≡◌ {A = ℕ} 0 1 = cc q in omega (arith, z)

behind_field : (t : ℕ) (bs v rest : List ℕ) → field_of t bs ≡ Some (v, rest) → length rest ≤ length bs
behind_field t bs v rest e =
    let s = cut_stands bs ((t, v), rest) (found t bs v rest e) in
    omega (arith, simp length-append at (ap length s.is))

behind_set : (bs : List ℕ) (o : Option (List ℕ × List ℕ)) (k : ℕ × List ℕ) → field_of 0xF1 bs ≡ o → then set_in o ≡ Some k → length k.1 ≤ length bs
behind_set bs None k e q = let z : ◌≡◌ {A = ℕ} 0 1 = cc q in absurd (omega (arith, z))
behind_set bs (Some (v, rest)) k e q = go (alone v) q
  where
    go : (a : Option ℕ) → then {U = ℕ × List ℕ} (λ (n : ℕ). Some (n, rest)) a ≡ Some k → length k.1 ≤ length bs
    go None q = let z : ◌≡◌ {A = ℕ} 0 1 = cc q in absurd (omega (arith, z))
    go (Some n) q =
        let same : ◌≡◌ {A = ℕ × List ℕ} (n, rest) k = cc in
        let l : length rest ≡ length k.1 = ap (λ (x : ℕ × List ℕ). length x.1) same in
        omega (arith, l, behind_field 0xF1 bs v rest e)

pub commands_within : (file : List ℕ) (p : Parts) → laid_out file ≡ Ok p → length p.commands ≤ length file
commands_within file p q = at (field_of 0xF0 file) refl q
  where
    behind : (v rest : List ℕ) → length rest ≤ length file → (o : Option (ℕ × List ℕ)) → then set_in (field_of 0xF1 rest) ≡ o
        → and_then (λ (k : ℕ × List ℕ). Ok (split v k)) (ok_or o (ill (3 + length v))) ≡ Ok p → length p.commands ≤ length file
    behind v rest l None e q = absurd (err_ok q)
    behind v rest l (Some k) e q =
        let same : split v k ≡ p = cc in
        let n : length (split v k).commands ≡ length p.commands = ap (λ (x : Parts). length x.commands) same in
        omega (arith, n, length-drop (book_length 0 k.1) k.1, behind_set rest (field_of 0xF1 rest) k refl e)

    at : (o : Option (List ℕ × List ℕ)) → field_of 0xF0 file ≡ o
        → and_then (λ (o : List ℕ × List ℕ). and_then (λ (k : ℕ × List ℕ). Ok (split o.0 k)) (ok_or (then set_in (field_of 0xF1 o.1)) (ill (3 + length o.0)))) (ok_or o (ill 0)) ≡ Ok p
        → length p.commands ≤ length file
    at None e q = absurd (err_ok q)
    at (Some (v, rest)) e q = behind v rest (behind_field 0xF0 file v rest e) (then set_in (field_of 0xF1 rest)) refl q
