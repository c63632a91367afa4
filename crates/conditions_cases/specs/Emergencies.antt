-- A language of one condition of its own: there is an emergency.
use Rattle.std.specs.Prelude.{ℕ, refl}
use Rattle.std.proofs.Common.{arith}
use Rattle.states.specs.declared.state.State.{State}
use Rattle.states.specs.States.{known}
use Rattle.conditions.specs.declared.truth.Truth.{Truth}
use Rattle.conditions.specs.Laws.{Lawful}
use Rattle.conditions.specs.Own.{with_own}
use Rattle.conditions.specs.OwnLaws.{own_lawful}
use Rattle.conditions.specs.Steady.{test_steady}
use Rattle.conditions.specs.Truths.{within}

-- condition 2: STATUS (7) is 1
abbrev pub emergency : ℕ → State → Truth
emergency = with_own 1 (λ k s. within (known s 7) 1 1)

pub emergency_lawful : Lawful 3 emergency
emergency_lawful = own_lawful 1 (λ k s. within (known s 7) 1 1) (omega arith) (λ k s t m. test_steady (λ o. within o 1 1) refl (known s 7) (known t 7) (m 7))
