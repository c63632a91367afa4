-- Values and the bytes that spell them.
use Rattle.std.proofs.Common.{◌≡◌, ℕ, zero, suc, ◌+◌, ◌*◌, ◌/◌, ◌%◌, ◌<◌, ◌⊎◌, List, [], ◌∷◌, ◌++◌, length, Some, None, Option, sym, refl, ap, ◌∙◌, subst, ⊎_elim, append-nil, div-add-mod', arith}
use Rattle.std.proofs.lemmas.Option.{none-some}
use Rattle.std.specs.List.{AllByRecursion}
use Rattle.std.proofs.lemmas.Bool.{cases_order}
use Rattle.states.specs.declared.report.Report.{Report}
use Rattle.command_words.specs.Format.{pair_of, quad_of, entry_of, entries}
use Rattle.commands.specs.Steps.{pair, quad, unknown, noted, reported}
use Rattle.commands.specs.Law.{Entries}

abbrev pub Bytes : List ℕ → Type 0
Bytes xs = AllByRecursion (λ b. b < 256) xs

-- numbers
pub pair_again : (n : ℕ) → pair (pair_of n) ≡ Some n
pair_again n = ap (λ (x : ℕ). Some x) (div-add-mod' n 256)

pub quad_again : (n : ℕ) → quad (quad_of n) ≡ Some n
quad_again n = rw (div-add-mod' (n / 256 / 256) 256, div-add-mod' (n / 256) 256, div-add-mod' n 256)

high : (x y : ℕ) → y < 256 → (x * 256 + y) / 256 ≡ x
high x y h = omega arith

low : (x y : ℕ) → y < 256 → (x * 256 + y) % 256 ≡ y
low x y h = omega arith

pub pair_stands : (v : List ℕ) (n : ℕ) → Bytes v → pair v ≡ Some n → v ≡ pair_of n
pair_stands [] n b e = absurd (none-some _ e)
pair_stands (x ∷ []) n b e = absurd (none-some _ e)
pair_stands (x ∷ y ∷ []) n b e =
    let s : x * 256 + y ≡ n = cc in
    subst (λ m. x ∷ y ∷ [] ≡ pair_of m) s (rw (high x y b.1.0, low x y b.1.0))
pair_stands (x ∷ y ∷ z ∷ r) n b e = absurd (none-some _ e)

pub quad_stands : (v : List ℕ) (n : ℕ) → Bytes v → quad v ≡ Some n → v ≡ quad_of n
quad_stands [] n b e = absurd (none-some _ e)
quad_stands (x ∷ []) n b e = absurd (none-some _ e)
quad_stands (x ∷ y ∷ []) n b e = absurd (none-some _ e)
quad_stands (x ∷ y ∷ z ∷ []) n b e = absurd (none-some _ e)
quad_stands (x ∷ y ∷ z ∷ w ∷ []) n b e =
    let s : ((x * 256 + y) * 256 + z) * 256 + w ≡ n = cc in
    subst (λ m. x ∷ y ∷ z ∷ w ∷ [] ≡ quad_of m) s
    (rw (high ((x * 256 + y) * 256 + z) w b.1.1.1.0, low ((x * 256 + y) * 256 + z) w b.1.1.1.0, high (x * 256 + y) z b.1.1.0, low (x * 256 + y) z b.1.1.0, high x y b.1.0, low x y b.1.0))
quad_stands (x ∷ y ∷ z ∷ w ∷ u ∷ r) n b e = absurd (none-some _ e)

-- a state begins with the entry of the next variable, or that variable is unknown
record Begins (v : ℕ) (xs : List ℕ) : Type 0 where
  told : Option ℕ
  rest : List ℕ
  split : xs ≡ entry_of v told ++ rest
  later : Entries v rest
  small : Bytes rest

begins : (last : ℕ) (xs : List ℕ) → Entries last xs → Bytes xs → Begins (suc last) xs
begins last [] e b = record { told = None; rest = []; split = refl; later = tt; small = tt }
begins last (v ∷ []) e b = absurd e
begins last (v ∷ h ∷ []) e b = absurd e
begins last (v ∷ h ∷ l ∷ r) e b =
    ⊎_elim
    (λ (same : v ≡ suc last). record {
      told = Some (h * 256 + l);
      rest = r;
      split = (λ i. same i ∷ h ∷ l ∷ r) ∙ ap (λ (p : List ℕ). suc last ∷ (p ++ r)) (pair_stands (h ∷ l ∷ []) (h * 256 + l) (b.1.0, (b.1.1.0, tt)) refl);
      later = subst (λ k. Entries k r) same e.2;
      small = b.1.1.1;
    })
    (λ (other : (v < suc last) ⊎ (suc last < v)). record {
      told = None;
      rest = v ∷ h ∷ l ∷ r;
      split = refl;
      later = (⊎_elim (λ (k : v < suc last). absurd (omega (arith, e.0))) (λ (k : suc last < v). k) other, e.1, e.2);
      small = b;
    })
    (cases_order v (suc last))

ends_at : (xs : List ℕ) → Entries 7 xs → xs ≡ []
ends_at [] e = refl
ends_at (v ∷ []) e = absurd e
ends_at (v ∷ h ∷ []) e = absurd e
ends_at (v ∷ h ∷ l ∷ r) e = absurd (omega (arith, e.0, e.1))

-- entries of some variables in a row
abbrev slots : ℕ → List (Option ℕ) → List ℕ
slots v [] = []
slots v (o ∷ os) = entry_of v o ++ slots (suc v) os

slots_of : (n last : ℕ) (xs : List ℕ) → last + n ≡ 7 → Entries last xs → Bytes xs → (os : List (Option ℕ)) × (length os ≡ n) × (xs ≡ slots (suc last) os)
slots_of zero last xs h e b = let seven : last ≡ 7 = omega arith in ([], refl, ends_at xs (subst (λ k. Entries k xs) seven e))
slots_of (suc n) last xs h e b =
    let p = begins last xs e b in
    let q = slots_of n (suc last) p.rest (omega arith) p.later p.small in
    (p.told ∷ q.0, ap suc q.1, p.split ∙ ap (λ (l : List ℕ). entry_of (suc last) p.told ++ l) q.2)

-- the bytes of a state are the entries of some report
six : (os : List (Option ℕ)) → length os ≡ 6 → (r : Report) × (slots 2 os ≡ entries r)
six [] h = absurd (omega arith)
six (a ∷ []) h = absurd (omega arith)
six (a ∷ b ∷ []) h = absurd (omega arith)
six (a ∷ b ∷ c ∷ []) h = absurd (omega arith)
six (a ∷ b ∷ c ∷ d ∷ []) h = absurd (omega arith)
six (a ∷ b ∷ c ∷ d ∷ e ∷ []) h = absurd (omega arith)
six (a ∷ b ∷ c ∷ d ∷ e ∷ f ∷ []) h = (
  record { time = a; day = b; groups = c; path = d; level = e; status = f },
  ap (λ (l : List ℕ). entry_of 2 a ++ (entry_of 3 b ++ (entry_of 4 c ++ (entry_of 5 d ++ (entry_of 6 e ++ l))))) (append-nil (entry_of 7 f)),
)
six (a ∷ b ∷ c ∷ d ∷ e ∷ f ∷ g ∷ os) h = absurd (omega arith)

pub entries_of : (xs : List ℕ) → Entries 1 xs → Bytes xs → (r : Report) × (xs ≡ entries r)
entries_of xs e b =
    let p = slots_of 6 1 xs refl e b in
    let q = six p.0 p.1 in
    (q.0, p.2 ∙ q.1)

-- the entry of a variable fills its place in the report, which was empty
tell : (filled : Option ℕ → Report) (v : ℕ) → ((n : ℕ) → noted (filled None) v n ≡ filled (Some n))
    → (o : Option ℕ) (rest : List ℕ) → reported (filled None) (entry_of v o ++ rest) ≡ reported (filled o) rest
tell filled v h None rest = refl
tell filled v h (Some n) rest =
    ap (λ (m : ℕ). reported (noted (filled None) v m) rest) (div-add-mod' n 256) ∙ ap (λ (x : Report). reported x rest) (h n)

abbrev mk : Option ℕ → Option ℕ → Option ℕ → Option ℕ → Option ℕ → Option ℕ → Report
mk a b c d e f = record { time = a; day = b; groups = c; path = d; level = e; status = f }

-- the entries of a report tell it again
pub reported_again : (r : Report) → reported unknown (entries r) ≡ r
reported_again r =
    let a = r.time in let b = r.day in let c = r.groups in let d = r.path in let e = r.level in let f = r.status in
    tell (λ o. mk o None None None None None) 2 (λ n. refl) a _
    ∙ tell (λ o. mk a o None None None None) 3 (λ n. refl) b _
    ∙ tell (λ o. mk a b o None None None) 4 (λ n. refl) c _
    ∙ tell (λ o. mk a b c o None None) 5 (λ n. refl) d _
    ∙ tell (λ o. mk a b c d o None) 6 (λ n. refl) e _
    ∙ ap (reported (mk a b c d e None)) (sym (append-nil (entry_of 7 f)))
    ∙ tell (λ o. mk a b c d e o) 7 (λ n. refl) f []

pub report_stands : (xs : List ℕ) → Entries 1 xs → Bytes xs → entries (reported unknown xs) ≡ xs
report_stands xs e b =
    let p = entries_of xs e b in
    ap (λ (l : List ℕ). entries (reported unknown l)) p.1 ∙ ap entries (reported_again p.0) ∙ sym p.1
