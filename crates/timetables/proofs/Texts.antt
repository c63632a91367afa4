-- How a line and a table grow.
use Rattle.std.proofs.Common.{◌≡◌, ℕ, suc, ◌+◌, ◌-◌, ◌≤◌, List, ◌++◌, arith, Some, sym, ap, ◌∙◌, append_assoc, append-nil, add-one}
use Rattle.states.specs.declared.state.State.{State}
use Rattle.conditions.specs.declared.truth.Truth.{Truth}
use Rattle.timetables.specs.Timetables.{before, piece_of, course, line, lines}

-- nothing is written of no minutes
pub course_none : (f : ℕ → Truth) (t : List ℕ) → t ≡ t ++ course f 0
unfolding course
course_none f t = sym (append-nil t)

-- one minute more
pub course_more : (f : ℕ → Truth) (start now more : List ℕ) (m : ℕ) → now ≡ start ++ course f m → more ≡ piece_of (before f m) m (f m) → now ++ more ≡ start ++ course f (m + 1)
unfolding course
course_more f start now more m e p =
    (λ i. e i ++ p i) ∙ append_assoc start (course f m) (piece_of (before f m) m (f m)) ∙ sym (ap (λ k. start ++ course f k) (add-one m))

pub before_more : (f : ℕ → Truth) (m : ℕ) (t : Truth) → t ≡ f m → Some t ≡ before f (m + 1)
before_more f m t e = ap (λ x. Some x) e ∙ sym (ap (before f) (add-one m))

pub lines_none : (says : ℕ → State → Truth) (t : List ℕ) → t ≡ t ++ lines says 0
unfolding lines
lines_none says t = sym (append-nil t)

-- one line more
pub lines_more : (says : ℕ → State → Truth) (start now next : List ℕ) (n : ℕ) → 2 ≤ n → now ≡ start ++ lines says (n - 2) → next ≡ now ++ line says n → next ≡ start ++ lines says (n + 1 - 2)
unfolding lines
lines_more says start now next n low e p =
    let same : n ≡ n - 2 + 2 = omega arith in
    let more : suc (n - 2) ≡ n + 1 - 2 = omega arith in
    p ∙ (λ i. e i ++ line says (same i)) ∙ append_assoc start (lines says (n - 2)) (line says (n - 2 + 2)) ∙ ap (λ j. start ++ lines says j) more
