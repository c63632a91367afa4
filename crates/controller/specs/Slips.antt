-- What becomes of a slip by what becomes of its key.
use Rattle.std.specs.Prelude.{Ok, Err, Result}
use Rattle.faults.specs.declared.Fault.{Fault}
use Rattle.controller.specs.declared.slip.Slip.{Slip}
use Rattle.controller.specs.declared.slip.RefusedSlip.{RefusedSlip}

-- it is spent, or comes back whole with the fault
abbrev pub spent_by : Slip → Result (Unit {0}) Fault → Result (Unit {0}) RefusedSlip
spent_by slip (Ok u) = Ok u
spent_by slip (Err e) = Err (record { fault = e; slip = slip })
