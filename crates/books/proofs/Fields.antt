-- How a book is checked field by field, and that the tests are the rules.
use Rattle.std.proofs.Common.{◌≡◌, ℕ, zero, suc, ◌+◌, ◌-◌, ◌<◌, ◌≤◌, Bool, true, false, cond, ◌&&◌, ltb, leb, ◌⊎◌, List, [], ◌∷◌, ◌++◌, length, get_or, take, drop, is_some, Some, None, Ok, Err, Option, Result, sym, refl, ap, ◌∙◌, subst, inl, inr, ⊎_elim, add-one, arith, length-drop, length-take, get_or-drop, get_or-take, drop-drop}
use Rattle.std.proofs.lemmas.List.{get_or_past, get_or_append_left}
use Rattle.std.proofs.Math.Seq.{get_or-append_seam}
use Rattle.std.proofs.lemmas.Bool.{cases_lt, cond-true, cond-false, and_from, and_parts, lt-leb, le-leb, lt-ltb, leb-true, leb-false, ltb-true, cond_both, eqb-true, eq-eqb, ne_eqb}
use Rattle.std.specs.Result.{MatchResult, IfOk, result_unwrap_or}
use Rattle.arrayvec.specs.ArrayVec.{ArrayVec, array_vec_len}
use Rattle.faults.specs.declared.Fault.{Fault}
use Rattle.faults.specs.declared.Refusal.TheVariants.{ConditionsIllFormed}
use Rattle.faults.specs.Faults.{fault}
use Rattle.books.specs.Trees.{Tree}
use Rattle.books.specs.Readings.{tree, truth_of, Bytes}
use Rattle.books.specs.Books.{long, body, condition_bytes, field_ok, start, good_at, checked_from, checked, Formed, Placed, Field, Rules, Judged, Meant}
use Rattle.books.proofs.Spelling.{found, spelled}

start_ge : (bs : List ℕ) (k : ℕ) → k ≤ start bs k
start_ge bs zero = omega arith
start_ge bs (suc k) = omega (arith, start_ge bs k)

-- k fields are read, and `at` is behind them
pub record Walk (bs : List ℕ) (at k : ℕ) : Type 0 where
  pub fuel : ℕ
  pub here : at ≡ start bs k
  pub few : k ≤ 1022
  pub enough : length bs ≤ fuel + k
  pub same : checked_from fuel bs k ≡ checked bs
  pub within : at ≤ length bs
  pub low : at ≤ 65535

pub walk_none : (bs : List ℕ) → Walk bs 0 0
walk_none bs = record { fuel = length bs; here = refl; few = omega arith; enough = omega arith; same = refl; within = omega arith; low = omega arith }

-- with fuel left, the next field is judged
next_good : (f : ℕ) (bs : List ℕ) (k : ℕ) → start bs k < length bs → k < 1022 → good_at bs (start bs k) ≡ true → checked_from (suc f) bs k ≡ checked_from f bs (suc k)
next_good f bs k h few good = cond-false _ _ _ (lt-leb (length bs) (start bs k) h) ∙ cond-true _ _ _ (and_from _ _ (lt-ltb k 1022 few) good)

next_bad : (f : ℕ) (bs : List ℕ) (k : ℕ) → start bs k < length bs → (ltb k 1022 && good_at bs (start bs k)) ≡ false → checked_from (suc f) bs k ≡ Err (fault ConditionsIllFormed (start bs k))
next_bad f bs k h bad = cond-false _ _ _ (lt-leb (length bs) (start bs k) h) ∙ cond-false _ _ _ bad

all_read : (f : ℕ) (bs : List ℕ) (k : ℕ) → length bs ≤ start bs k → checked_from f bs k ≡ Ok k
all_read zero bs k h = refl
all_read (suc f) bs k h = cond-true _ _ _ (le-leb (length bs) (start bs k) h)

some_fuel : (f : ℕ) (bs : List ℕ) (k : ℕ) → length bs ≤ f + k → start bs k < length bs → (g : ℕ) × (f ≡ suc g)
some_fuel zero bs k h lt = absurd (omega (arith, start_ge bs k))
some_fuel (suc f) bs k h lt = (f, refl)

module _ {bs : List ℕ} {at k : ℕ} (w : Walk bs at k) where
  pub walk_more : at < length bs → k < 1022 → good_at bs at ≡ true → at + (3 + long (drop at bs)) ≤ length bs → Walk bs (at + (3 + long (drop at bs))) (k + 1)
  walk_more h few good room =
      let lt : start bs k < length bs = subst (λ p. p < length bs) w.here h in
      let g = some_fuel w.fuel bs k w.enough lt in
      let step = next_good g.0 bs k lt few (subst (λ p. good_at bs p ≡ true) w.here good) in
      record {
        fuel = g.0;
        here = ap (λ p. p + (3 + long (drop p bs))) w.here ∙ sym (ap (start bs) (add-one k));
        few = omega arith;
        enough = omega (arith, w.enough, g.1);
        same = ap (checked_from g.0 bs) (add-one k) ∙ sym step ∙ sym (ap (λ f. checked_from f bs k) g.1) ∙ w.same;
        within = room;
        low = leb-true (at + (3 + long (drop at bs))) 65535 (and_parts _ _ good).1;
      }

  pub walk_bad : at < length bs → (ltb k 1022 && good_at bs at) ≡ false → checked bs ≡ Err (fault ConditionsIllFormed at)
  walk_bad h bad =
      let lt : start bs k < length bs = subst (λ p. p < length bs) w.here h in
      let g = some_fuel w.fuel bs k w.enough lt in
      sym w.same ∙ ap (λ f. checked_from f bs k) g.1 ∙ next_bad g.0 bs k lt (subst (λ p. (ltb k 1022 && good_at bs p) ≡ false) w.here bad) ∙ sym (ap (λ p. Err (fault ConditionsIllFormed p)) w.here)

  pub walk_all : length bs ≤ at → checked bs ≡ Ok k
  walk_all h = sym w.same ∙ all_read w.fuel bs k (subst (λ p. length bs ≤ p) w.here h)

-- where one more field begins
pub placed_more : (bs starts : List ℕ) (k at : ℕ) → length starts ≡ k → at ≡ start bs k → Placed bs k starts → Placed bs (k + 1) (starts ++ at ∷ [])
placed_more bs starts k at long here placed j h =
    ⊎_elim
    (λ lt. get_or_append_left starts (at ∷ []) 0 j (omega arith) ∙ placed j lt)
    (λ ge. let e : j ≡ length starts = omega arith in ap (λ i. get_or (starts ++ at ∷ []) i 0) e ∙ get_or-append_seam starts at [] 0 ∙ here ∙ ap (start bs) (sym long ∙ sym e))
    (cases_lt j k)

pub next_ok : (b : Bool) (x y : ℕ) (e : Fault) → Ok x ≡ cond b (Ok y) (Err e) → (b ≡ true) × (x ≡ y)
next_ok true x y e k = (refl, cc)
next_ok false x y e k = absurd cc

pub next_err : (b : Bool) (x e : Fault) (y : ℕ) → Err x ≡ cond b (Ok y) (Err e) → (b ≡ false) × (x ≡ e)
next_err true x e y k = absurd cc
next_err false x e y k = (refl, cc)

-- what a field's test says
pub record Whole (fs : List ℕ) : Type 0 where
  pub tag : get_or fs 0 0 ≡ 0xC1
  pub head : 3 ≤ length fs
  pub some : 1 ≤ long fs
  pub most : long fs ≤ 64
  pub room : 3 + long fs ≤ length fs
  pub spelled : is_some (tree (body fs)) ≡ true

pub whole : (fs : List ℕ) → field_ok fs ≡ true → Whole fs
whole fs e =
    let a = and_parts _ _ e in
    let b = and_parts _ _ a.1 in
    let d = and_parts _ _ b.1 in
    let f = and_parts _ _ d.1 in
    let g = and_parts _ _ f.1 in
    record {
      tag = eqb-true (get_or fs 0 0) 0xC1 a.0;
      head = leb-true 3 (length fs) b.0;
      some = leb-true 1 (long fs) d.0;
      most = leb-true (long fs) 64 f.0;
      room = leb-true (3 + long fs) (length fs) g.0;
      spelled = g.1;
    }

pub good_whole : (bs : List ℕ) (p : ℕ) → good_at bs p ≡ true → Whole (drop p bs)
good_whole bs p e = whole (drop p bs) (and_parts _ _ e).0

pub good_room : (bs : List ℕ) (p : ℕ) → good_at bs p ≡ true → p + (3 + long (drop p bs)) ≤ length bs
good_room bs p e = omega (arith, (good_whole bs p e).room, length-drop p bs)

by_cond : {A : Type 0} (b : Bool) (x y z : A) → cond b x y ≡ z → ((b ≡ true) × (x ≡ z)) ⊎ ((b ≡ false) × (y ≡ z))
by_cond true x y z e = inl (refl, e)
by_cond false x y z e = inr (refl, e)

same_ok : (k m : ℕ) → ◌≡◌ {A = Result ℕ Fault} (Ok k) (Ok m) → k ≡ m
same_ok k m e = cc

not_ok : (p : Fault) (m : ℕ) → ◌≡◌ {A = Result ℕ Fault} (Err p) (Ok m) → ⊥
not_ok p m e = cc

formed_more : (bs : List ℕ) (k : ℕ) → k < 1022 → Formed bs k → good_at bs (start bs k) ≡ true → Formed bs (suc k)
formed_more bs k few formed good =
    (omega arith, λ j h. ⊎_elim (λ lt. formed.1 j lt) (λ ge. let e : k ≡ j = omega arith in subst (λ i. good_at bs (start bs i) ≡ true) e good) (cases_lt j k))

from_formed : (f : ℕ) (bs : List ℕ) (k m : ℕ) → Formed bs k → checked_from f bs k ≡ Ok m → Formed bs m
from_formed zero bs k m formed e = subst (Formed bs) (same_ok k m e) formed
from_formed (suc f) bs k m formed e =
    ⊎_elim
    (λ h. subst (Formed bs) (same_ok k m h.1) formed)
    (λ h. ⊎_elim
    (λ g. let both = and_parts _ _ g.0 in from_formed f bs (suc k) m (formed_more bs k (ltb-true k 1022 both.0) formed both.1) g.1)
    (λ g. absurd (not_ok (fault ConditionsIllFormed (start bs k)) m g.1))
    (by_cond _ _ _ _ h.1))
    (by_cond _ _ _ _ e)

pub formed_none : (bs : List ℕ) → Formed bs 0
formed_none bs = (omega arith, λ j h. absurd (omega arith))

pub checked_formed : (bs : List ℕ) (k : ℕ) → checked bs ≡ Ok k → Formed bs k
checked_formed bs k e = from_formed (length bs) bs 0 k (formed_none bs) e

-- an ill-formed book has no conditions of its own
pub opened : (bs : List ℕ) (r : Result (ArrayVec ℕ) Fault) (none starts : ArrayVec ℕ) → MatchResult r (λ s. checked bs ≡ Ok (array_vec_len s)) (λ e. checked bs ≡ Err e) → IfOk r (λ s. Placed bs (array_vec_len s) s.items) → none.items ≡ [] → starts ≡ result_unwrap_or r none → Formed bs (array_vec_len starts) × Placed bs (array_vec_len starts) starts.items
opened bs (Ok s) none starts is placed empty e =
    subst (λ x. Formed bs (array_vec_len x) × Placed bs (array_vec_len x) x.items) (sym e) (checked_formed bs (array_vec_len s) is, placed)
opened bs (Err fault) none starts is placed empty e =
    let zero : array_vec_len starts ≡ 0 = ap array_vec_len e ∙ ap length empty in
    (subst (Formed bs) (sym zero) (formed_none bs), λ j h. absurd (omega (arith, zero)))

-- the bytes at a condition's place are a condition
pub part_spelled : (bs : List ℕ) (m k p n : ℕ) → Formed bs m → k < m → p ≡ start bs k → n ≡ long (drop p bs) → is_some (tree (take n (drop (p + 3) bs))) ≡ true
part_spelled bs m k p n formed h e is =
    let value : take n (drop (p + 3) bs) ≡ condition_bytes bs k = ap (λ m. take m (drop (p + 3) bs)) is ∙ ap (take (long (drop p bs))) (sym (drop-drop 3 p bs)) ∙ ap (λ q. body (drop q bs)) e in
    ap (λ l. is_some (tree l)) value ∙ (good_whole bs (start bs k) (formed.1 k h)).spelled

-- ---- the tests are the rules

some_tree : (o : Option Tree) → is_some o ≡ true → (t : Tree) × (o ≡ Some t)
some_tree None e = absurd cc
some_tree (Some t) e = (t, refl)

bytes_drop : (p : ℕ) (bs : List ℕ) → Bytes bs → Bytes (drop p bs)
bytes_drop p bs bytes i = subst (λ b. b < 256) (sym (get_or-drop p bs i 0)) (bytes (p + i))

bytes_take : (n : ℕ) (bs : List ℕ) → Bytes bs → Bytes (take n bs)
bytes_take n bs bytes i =
    ⊎_elim
    (λ h. subst (λ b. b < 256) (sym (get_or-take n bs i 0 h)) (bytes i))
    (λ h. omega (arith, get_or_past (take n bs) i 0 (omega (arith, length-take n bs))))
    (cases_lt i n)

-- the test of the k-th field, as the check makes it
abbrev test : List ℕ → ℕ → Bool
test bs k = ltb k 1022 && good_at bs (start bs k)

test_rules : (bs : List ℕ) (k : ℕ) → Bytes bs → test bs k ≡ true → Rules bs k
test_rules bs k bytes e =
    let a = and_parts _ _ e in
    let b = and_parts _ _ a.1 in
    let fs = drop (start bs k) bs in
    let w = whole fs b.0 in
    let t = some_tree (tree (body fs)) w.spelled in (
      record {
        tag = w.tag;
        header = w.head;
        some = w.some;
        most = w.most;
        whole = w.room;
        spelled = (t.0, (spelled (body fs) t.0 (bytes_take (long fs) (drop 3 fs) (bytes_drop 3 fs (bytes_drop (start bs k) bs bytes)))).0 t.1);
      },
      ltb-true k 1022 a.0,
      leb-true (start bs k + (3 + long fs)) 65535 b.1,
    )

rules_test : (bs : List ℕ) (k : ℕ) → Rules bs k → test bs k ≡ true
rules_test bs k r =
    let fs = drop (start bs k) bs in
    let f : Field fs = r.0 in
    let t = f.spelled in
    and_from _ _ (lt-ltb k 1022 r.1)
    (and_from _ _
    (and_from _ _ (eq-eqb (get_or fs 0 0) 0xC1 f.tag)
    (and_from _ _ (le-leb 3 (length fs) f.header)
    (and_from _ _ (le-leb 1 (long fs) f.some)
    (and_from _ _ (le-leb (long fs) 64 f.most)
    (and_from _ _ (le-leb (3 + long fs) (length fs) f.whole) (ap is_some (found (body fs) t.0 t.1)))))))
    (le-leb (start bs k + (3 + long fs)) 65535 r.2))

formed_rules : (bs : List ℕ) (k : ℕ) → Bytes bs → Formed bs k → (j : ℕ) → j < k → Rules bs j
formed_rules bs k bytes formed j h = test_rules bs j bytes (and_from _ _ (lt-ltb j 1022 (omega (arith, formed.0))) (formed.1 j h))

judged_from : (f : ℕ) (bs : List ℕ) (k : ℕ) → Bytes bs → Formed bs k → start bs k ≤ length bs → length bs ≤ f + k → Judged bs (checked_from f bs k)
judged_from zero bs k bytes formed h enough = (omega (arith, start_ge bs k), formed_rules bs k bytes formed)
judged_from (suc f) bs k bytes formed h enough =
    let P : Result ℕ Fault → Type 0 = Judged bs in
    cond_both (leb (length bs) (start bs k)) (Ok k) _ P
    (λ e. (omega (arith, leb-true (length bs) (start bs k) e), formed_rules bs k bytes formed))
    (λ e. cond_both (test bs k) (checked_from f bs (suc k)) (Err (fault ConditionsIllFormed (start bs k))) P
    (λ g. let both = and_parts _ _ g in judged_from f bs (suc k) bytes (formed_more bs k (ltb-true k 1022 both.0) formed both.1) (good_room bs (start bs k) both.1) (omega arith))
    (λ g. (k, refl, leb-false (length bs) (start bs k) e, formed_rules bs k bytes formed, λ r. let e1 = rules_test bs k r in cc)))

pub judged : (bs : List ℕ) → Bytes bs → Judged bs (checked bs)
judged bs bytes = judged_from (length bs) bs 0 bytes (formed_none bs) (omega arith) (omega arith)

-- ---- what a condition says

pub meant : Meant
meant bs count n t s low high spells =
    cond-false _ _ _ (ne_eqb n 0 (λ e. omega arith))
    ∙ cond-false _ _ _ (ne_eqb n 1 (λ e. omega arith))
    ∙ cond-true _ _ _ (lt-ltb n (count + 2) high)
    ∙ ap (λ o. truth_of o s) (found (condition_bytes bs (n - 2)) t spells)
