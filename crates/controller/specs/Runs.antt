-- The calls and the answers of a run, in the words of the plain record.
use Rattle.std.specs.Prelude.{ℕ, ◌-◌, List, ◌++◌, length, replicate, Ok, Err, Result}
use Rattle.faults.specs.declared.Fault.{Fault}
use Rattle.plain.specs.Record as plain
use Rattle.controller.specs.declared.slip.Slip.{Slip}
use Rattle.controller.specs.declared.slip.RefusedSlip.{RefusedSlip}
use Rattle.controller.specs.declared.run.Call.{Call}
use Rattle.controller.specs.declared.run.Call.TheVariants as calls
use Rattle.controller.specs.declared.run.Answer.{Answer}
use Rattle.controller.specs.declared.run.Answer.TheVariants as answers

-- the call that is meant
abbrev pub asked : Call → plain.Call
asked (calls.Fit owners kept) = plain.Fit owners.now kept
asked (calls.Issue caller hook grantee terms) = plain.Issue caller hook grantee terms
asked (calls.Amend caller number terms) = plain.Amend caller number terms
asked (calls.Withdraw caller number) = plain.Withdraw caller number
asked (calls.Draw caller hook report) = plain.Draw caller hook report
asked (calls.Take hook person) = plain.Take hook person
asked (calls.Leave hook person) = plain.Leave hook person
asked (calls.Return caller hook) = plain.Return caller hook

-- an answer as it is written down, or the refusal: a chain's numbers in a list of eight, zeros behind
abbrev pub shown : plain.Answer → Result Answer Fault
shown (plain.Refused e) = Err e
shown (plain.Number n) = Ok (answers.Number n)
shown (plain.Orphaned n) = Ok (answers.Orphaned n)
shown (plain.Slip hook person numbers) = Ok (answers.Slip hook person (length numbers) (numbers ++ replicate (8 - length numbers) 0))
shown plain.Done = Ok answers.Done

-- what a call answers, written down by the kind of its answer
abbrev pub written : {A : Type 0} → (A → Answer) → Result A Fault → Result Answer Fault
written kind (Ok a) = Ok (kind a)
written kind (Err e) = Err e

-- a draw's answer, written down: the slip, and the caller's list
abbrev pub slip_shown : Result Slip Fault → List ℕ → Result Answer Fault
slip_shown (Ok slip) numbers = Ok (answers.Slip slip.hook slip.person slip.length numbers)
slip_shown (Err e) numbers = Err e

-- the answer to taking or leaving, written down
abbrev pub spent_shown : Result (Unit {0}) RefusedSlip → Result Answer Fault
spent_shown (Ok u) = Ok answers.Done
spent_shown (Err e) = Err e.fault
