-- Two registers with the same rows and the same count are the same.
use Rattle.std.proofs.Common.{◌≡◌, ◌≤◌, true, length, take}
use mathlib.Core.Bool.{Bool-set}
use mathlib.Core.HLevel.{is_prop→PathP}
use native.Mathlib.Bridge.{le_prop}
use native.Mathlib.Nat.{ℕ_set}
use Rattle.numbered.specs.Rows.{Rises, rises_from}
use Rattle.register.specs.declared.table.Register.{Register}
use Rattle.register.specs.Held.{numbers}

pub same : (a b : Register) → a.rows ≡ b.rows → a.count ≡ b.count → a ≡ b
same a b p q =
    λ i.
    record {
      rows = p i;
      count = q i;
      sized = is_prop→PathP (λ j. length (p j) ≡ 96) (λ j. ℕ_set (length (p j)) 96) a.sized b.sized i;
      within = is_prop→PathP (λ j. q j ≤ 96) (λ j. le_prop) a.within b.within i;
      rises = is_prop→PathP (λ j. Rises numbers (take (q j) (p j))) (λ j. Bool-set (rises_from numbers 0 (take (q j) (p j))) true) a.rises b.rises i;
    }
