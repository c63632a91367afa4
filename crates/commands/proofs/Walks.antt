-- The walk over a record, one field at a time.
use Rattle.std.proofs.Common.{◌≡◌, ℕ, suc, ◌+◌, ◌*◌, ◌<◌, ◌≤◌, Bool, true, false, cond, leb, List, [], ◌∷◌, ◌++◌, length, take, drop, Some, None, Err, sym, refl, ap, ◌∙◌, add-zero, arith, take-append-drop}
use Rattle.std.proofs.lemmas.Option.{none-some}
use Rattle.std.proofs.lemmas.List.{length-take-le}
use Rattle.std.proofs.lemmas.Bool.{leb-true}
use Rattle.command_words.specs.Fields.{Field}
use Rattle.commands.specs.Steps.{cut}
use Rattle.commands.specs.Law.{ill}
use Rattle.commands.specs.Reading.{next, ended, walk}

-- where a first field was found: its tag, two bytes of length, its value, the rest
pub record Stands (xs : List ℕ) (f : Field) (rest : List ℕ) : Type 0 where
  pub hi : ℕ
  pub lo : ℕ
  pub is : xs ≡ f.0 ∷ hi ∷ lo ∷ (f.1 ++ rest)
  pub long : length f.1 ≡ hi * 256 + lo

cut_at_stands : (b : Bool) (t h l : ℕ) (r : List ℕ) (p : Field × List ℕ) → leb (h * 256 + l) (length r) ≡ b
    → cond b (Some ((t, take (h * 256 + l) r), drop (h * 256 + l) r)) None ≡ Some p → Stands (t ∷ h ∷ l ∷ r) p.0 p.1
cut_at_stands true t h l r p e q =
    let u : ((t, take (h * 256 + l) r), drop (h * 256 + l) r) ≡ p = cc in
    let k : h * 256 + l ≤ length r = leb-true (h * 256 + l) (length r) e in
    record {
      hi = h;
      lo = l;
      is = ap (λ (x : List ℕ). t ∷ h ∷ l ∷ x) (sym (take-append-drop (h * 256 + l) r)) ∙ ap (λ (g : Field × List ℕ). g.0.0 ∷ h ∷ l ∷ (g.0.1 ++ g.1)) u;
      long = ap (λ (g : Field × List ℕ). length g.0.1) (sym u) ∙ length-take-le (h * 256 + l) r k;
    }
cut_at_stands false t h l r p e q = absurd (none-some _ q)

pub cut_stands : (xs : List ℕ) (p : Field × List ℕ) → cut xs ≡ Some p → Stands xs p.0 p.1
cut_stands [] p e = absurd (none-some _ e)
cut_stands (t ∷ []) p e = absurd (none-some _ e)
cut_stands (t ∷ h ∷ []) p e = absurd (none-some _ e)
cut_stands (t ∷ h ∷ l ∷ r) p e = cut_at_stands (leb (h * 256 + l) (length r)) t h l r p refl e

walk_skip : (v rest : List ℕ) (fs : List Field) (o : ℕ) → walk (length v) fs o (v ++ rest) ≡ walk 0 fs (o + length v) rest
unfolding walk
walk_skip [] rest fs o = rw add-zero
walk_skip (x ∷ v) rest fs o =
    let e : (o + 1) + length v ≡ o + suc (length v) = omega arith in
    walk_skip v rest fs (o + 1) ∙ ap (λ n. walk 0 fs n rest) e

walk_on : (before : List Field) (o hi lo : ℕ) (f : Field) (rest : List ℕ) → next before (f.0 ∷ hi ∷ lo ∷ (f.1 ++ rest)) ≡ Some f
    → walk 0 before o (f.0 ∷ hi ∷ lo ∷ (f.1 ++ rest)) ≡ walk 0 (f ∷ before) (o + (3 + length f.1)) rest
unfolding walk
walk_on before o hi lo f rest e =
    let n : ((o + 1) + 1 + 1) + length f.1 ≡ o + (3 + length f.1) = omega arith in
    rw (e, walk) (walk_skip f.1 rest (f ∷ before) ((o + 1) + 1 + 1) ∙ ap (λ k. walk 0 (f ∷ before) k rest) n)

-- a field that keeps the rules is passed over
pub walk_some : (before : List Field) (o : ℕ) (xs : List ℕ) (f : Field) (rest : List ℕ) → Stands xs f rest → next before xs ≡ Some f
    → walk 0 before o xs ≡ walk 0 (f ∷ before) (o + (3 + length f.1)) rest
walk_some before o xs f rest s e =
    ap (walk 0 before o) s.is ∙ walk_on before o s.hi s.lo f rest (sym (ap (next before) s.is) ∙ e)

pub walk_none : (before : List Field) (o : ℕ) (xs : List ℕ) → 0 < length xs → next before xs ≡ None → walk 0 before o xs ≡ Err (ill o)
unfolding walk
walk_none before o [] h e = absurd (omega arith)
walk_none before o (b ∷ bs) h e = rw (e, walk)

pub walk_end : (fs : List Field) (o : ℕ) (xs : List ℕ) → length xs ≡ 0 → walk 0 fs o xs ≡ ended fs o
unfolding walk
walk_end fs o [] h = refl
walk_end fs o (b ∷ bs) h = absurd (omega arith)
