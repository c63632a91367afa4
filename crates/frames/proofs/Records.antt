-- The commands are taken one by one.
use Rattle.std.proofs.Common.{◌≡◌, ℕ, suc, ◌+◌, ◌<◌, Bool, true, false, cond, eqb, List, [], ◌∷◌, ◌++◌, length, Some, None, Ok, Err, Option, sym, refl, ap, ◌∙◌, add-zero, arith, length-append}
use Rattle.std.proofs.lemmas.Option.{none-some}
use Rattle.std.specs.Option.{option_and_then as then}
use Rattle.std.proofs.lemmas.Bool.{eqb-true}
use Rattle.command_words.specs.Fields.{Field}
use Rattle.commands.specs.Steps.{cut}
use Rattle.commands.specs.Law.{ill}
use Rattle.commands.proofs.Walks.{cut_stands}
use Rattle.frames.specs.Frames.{tagged, field_of, next_command, records}

records_skip : (v rest : List ℕ) (o : ℕ) → records (length v) o (v ++ rest) ≡ records 0 (o + length v) rest
unfolding records
records_skip [] rest o = rw add-zero
records_skip (x ∷ v) rest o =
    let e : (o + 1) + length v ≡ o + suc (length v) = omega arith in
    records_skip v rest (o + 1) ∙ ap (λ n. records 0 n rest) e

-- a part that is found is a whole field with its tag
pub found : (t : ℕ) (bs v rest : List ℕ) → field_of t bs ≡ Some (v, rest) → cut bs ≡ Some ((t, v), rest)
found t bs v rest q = at (cut bs) refl q
  where
    by : (b : Bool) (f : Field × List ℕ) → eqb f.0.0 t ≡ b → cut bs ≡ Some f → cond {A = Option (List ℕ × List ℕ)} b (Some (f.0.1, f.1)) None ≡ Some (v, rest) → cut bs ≡ Some ((t, v), rest)
    by true f e c q =
        let tag : f.0.0 ≡ t = eqb-true f.0.0 t e in
        let same : ◌≡◌ {A = List ℕ × List ℕ} (f.0.1, f.1) (v, rest) = cc in
        c ∙ (λ i. Some ((tag i, (same i).0), (same i).1))
    by false f e c q = absurd (none-some _ q)

    at : (o : Option (Field × List ℕ)) → cut bs ≡ o → then (tagged t) o ≡ Some (v, rest) → cut bs ≡ Some ((t, v), rest)
    at None c q = absurd (none-some _ q)
    at (Some f) c q = by (eqb f.0.0 t) f refl c q

records_on : (o tag hi lo : ℕ) (v rest : List ℕ) → next_command (tag ∷ hi ∷ lo ∷ (v ++ rest)) ≡ Some (v, rest)
    → records 0 o (tag ∷ hi ∷ lo ∷ (v ++ rest)) ≡ Ok v ∷ records 0 (o + (3 + length v)) rest
unfolding records
records_on o tag hi lo v rest e =
    let n : ((o + 1) + 1 + 1) + length v ≡ o + (3 + length v) = omega arith in
    rw (e, records) (ap (λ l. Ok v ∷ l) (records_skip v rest ((o + 1) + 1 + 1) ∙ ap (λ k. records 0 k rest) n))

-- where the next command was taken, and what is left
pub record Took (bs v rest : List ℕ) : Type 0 where
  pub shorter : length bs ≡ 3 + (length v + length rest)
  pub on : (o : ℕ) → records 0 o bs ≡ Ok v ∷ records 0 (o + (3 + length v)) rest

pub took : (bs v rest : List ℕ) → next_command bs ≡ Some (v, rest) → Took bs v rest
took bs v rest e =
    let s = cut_stands bs ((0xF3, v), rest) (found 0xF3 bs v rest e) in
    record {
      shorter = ap length s.is ∙ simp length-append (omega arith);
      on = λ o. ap (records 0 o) s.is ∙ records_on o 0xF3 s.hi s.lo v rest (sym (ap next_command s.is) ∙ e);
    }

pub records_none : (o : ℕ) (bs : List ℕ) → 0 < length bs → next_command bs ≡ None → records 0 o bs ≡ Err (ill o) ∷ []
unfolding records
records_none o [] h e = absurd (omega arith)
records_none o (b ∷ bs) h e = rw (e, records)

pub records_end : (o : ℕ) (bs : List ℕ) → length bs ≡ 0 → records 0 o bs ≡ []
unfolding records
records_end o [] h = refl
records_end o (b ∷ bs) h = absurd (omega arith)
