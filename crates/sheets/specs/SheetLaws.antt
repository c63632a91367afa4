-- A sheet is a lawful language: each of its rows is steady.
use Rattle.std.specs.Prelude.{◌≡◌, ℕ, ◌+◌, ◌≤◌, Bool, cond, ◌&&◌, List, None, Option, ◌==◌, slice_index_or, refl}
use Rattle.std.proofs.Common.{arith}
use Rattle.states.specs.declared.state.State.{State}
use Rattle.states.specs.States.{known, ToldMore}
use Rattle.conditions.specs.declared.truth.Truth.{Truth}
use Rattle.conditions.specs.declared.truth.Truth.TheVariants.{True, Unknown}
use Rattle.conditions.specs.Laws.{Lawful, Stays}
use Rattle.conditions.specs.OwnLaws.{own_lawful}
use Rattle.conditions.specs.Steady.{conj_steady, stays_cond, test_steady}
use Rattle.conditions.specs.Truths.{within}
use Rattle.sheets.specs.declared.row.Row.{Row}
use Rattle.sheets.specs.Rows.{blank, hours_of, days_of, groups_of, path_of, barred_of, row_says, holds_all, in_days, other}
use Rattle.sheets.specs.Sheets.{sheet_says}

-- a test of variable v that asks nothing where b holds
unless : (b : Bool) (f : Option ℕ → Truth) (v : ℕ) (s t : State) → ◌≡◌ (f None) Unknown → ToldMore s t → Stays (cond b True (f (known s v))) (cond b True (f (known t v)))
unless b f v s t none m = stays_cond b True (f (known s v)) True (f (known t v)) refl (test_steady f none (known s v) (known t v) (m v))

row_steady : (r : Row) (s t : State) → ToldMore s t → Stays (row_says r s) (row_says r t)
row_steady r s t m =
    let hours = unless (r.from == 0 && r.to == 1439) (λ o. within o r.from r.to) 2 s t refl m in
    let days = unless (r.days == 127) (λ o. in_days o r.days) 3 s t refl m in
    let groups = unless (r.groups == 0) (λ o. holds_all o r.groups) 4 s t refl m in
    let path = unless (r.path == 0) (λ o. within o 1 1) 5 s t refl m in
    let barred = unless (r.barred == 0) (λ o. other o r.barred) 1 s t refl m in
    conj_steady _ (barred_of r s) _ (barred_of r t)
    (conj_steady _ (path_of r s) _ (path_of r t)
    (conj_steady _ (groups_of r s) _ (groups_of r t)
    (conj_steady (hours_of r s) (days_of r s) (hours_of r t) (days_of r t) hours days) groups) path) barred

pub sheet_lawful : (rows : List Row) (used : ℕ) → used ≤ 64 → Lawful (used + 2) (sheet_says rows used)
sheet_lawful rows used few = own_lawful used (λ k s. row_says (slice_index_or rows k blank) s) (omega arith) (λ k s t m. row_steady (slice_index_or rows k blank) s t m)
