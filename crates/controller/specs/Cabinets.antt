-- What a cabinet holds, and what a call answers and leaves.
use Rattle.std.specs.Prelude.{◌≡◌, ℕ, ◌-◌, List, ◌++◌, length, replicate, Ok, Err, Result}
use Rattle.faults.specs.declared.Fault.{Fault}
use Rattle.states.specs.declared.state.State.{State}
use Rattle.states.specs.States.{kept}
use Rattle.conditions.specs.declared.truth.Truth.{Truth}
use Rattle.loans.specs.Hooks.{hooks}
use Rattle.plain.specs.Record as plain
use Rattle.plain.specs.Record.{World, Call, Answer, step, whole}
use Rattle.ledger.specs.Answers.{done}
use Rattle.ledger.specs.Ledgers.{world_with}
use Rattle.controller.specs.declared.slip.Slip.{Slip}
use Rattle.controller.specs.declared.slip.RefusedSlip.{RefusedSlip}
use Rattle.controller.specs.Slips.{spent_by}
use Rattle.controller.specs.declared.cabinet.Cabinet.{Cabinet}

-- a cabinet's record, and where its keys are
abbrev pub world : {L : Type 0} → Cabinet L → World
world c = world_with c.ledger (hooks c.loans)

-- one call on a cabinet, by the definition of the plain record: the kept part of each state is written down, and all of that
-- is judged. size and says are what its language means
module _ {L : Type 0} (size : L → ℕ) (says : L → ℕ → State → Truth) where
  abbrev pub stepped : Cabinet L → Call → World × Answer
  stepped c call = step (size c.language) (says c.language) kept whole (world c) call

  -- what it answers
  abbrev pub reply : Cabinet L → Call → Answer
  reply c call = (stepped c call).1

  -- what it leaves: the record and the keys of the plain step, and the language as it was
  pub record Follows (before : Cabinet L) (call : Call) (after : Cabinet L) : Type 0 where
    pub language : after.language ≡ before.language
    pub held : world after ≡ (stepped before call).0

-- a draw's answer as a slip, with the length of the chain; only draws are answered by slips
abbrev pub slip_of : Answer → Result Slip Fault
slip_of (plain.Refused e) = Err e
slip_of (plain.Number n) = Ok (record { hook = 0; person = 0; length = 0 })
slip_of (plain.Orphaned n) = Ok (record { hook = 0; person = 0; length = 0 })
slip_of (plain.Slip hook person numbers) = Ok (record { hook = hook; person = person; length = length numbers })
slip_of plain.Done = Ok (record { hook = 0; person = 0; length = 0 })

-- the caller's list of eight afterwards: the numbers of the chain and zeros behind, or what it was
abbrev pub listed : List ℕ → Answer → List ℕ
listed old (plain.Refused e) = old
listed old (plain.Number n) = old
listed old (plain.Orphaned n) = old
listed old (plain.Slip hook person numbers) = numbers ++ replicate (8 - length numbers) 0
listed old plain.Done = old

-- a slip is spent where the call is done, and comes back whole with the fault where it is refused
abbrev pub spent : Slip → Answer → Result (Unit {0}) RefusedSlip
spent slip a = spent_by slip (done a)
