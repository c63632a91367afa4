-- How the answers of the plain record are told by a call: as a value, or as a refusal.
use Rattle.std.specs.Prelude.{ℕ, length, Some, None, Ok, Err, Option, Result}
use Rattle.faults.specs.declared.Fault.{Fault}
use Rattle.plain.specs.Record.{Answer, Refused, Number, Orphaned, Slip, Done}

-- a refusal, or the answer as one number: the grant's number, the count of orphans, the length of the chain, 0
abbrev pub told : Answer → Result ℕ Fault
told (Refused e) = Err e
told (Number n) = Ok n
told (Orphaned n) = Ok n
told (Slip hook person numbers) = Ok (length numbers)
told Done = Ok 0

-- a refusal, or that it is done
abbrev pub done : Answer → Result (Unit {0}) Fault
done (Refused e) = Err e
done (Number n) = Ok tt
done (Orphaned n) = Ok tt
done (Slip hook person numbers) = Ok tt
done Done = Ok tt

-- a value, unless a fault was found
abbrev pub unless : {A : Type 0} → Option Fault → A → Result A Fault
unless None a = Ok a
unless (Some e) a = Err e
