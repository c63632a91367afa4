-- The seventeen refusals, each with its number and its layer.
use Rattle.std.specs.Prelude.{ℕ, List, ◌++◌, codes, decimal}
use Rattle.faults.specs.declared.Refusal.{Refusal}
use Rattle.faults.specs.declared.Refusal.TheVariants.{CommandIllFormed, NotAPerson, NoSuchHook, ValueOutOfRange, NoSuchCondition, GranteeIsCallerOrOwner, NoSuchGrant, NotTheGrantor, NumbersSpent, RecordFull, NoChain, KeyNotIn, KeyNotOut, NotPromised, AlreadyFitted, FittingIllFormed, ConditionsIllFormed}
use Rattle.faults.specs.declared.Layer.{Layer}
use Rattle.faults.specs.declared.Layer.TheVariants.{Command, Conditions, Cabinet}
use Rattle.faults.specs.declared.Fault.{Fault}

-- the number by which a refusal is printed
abbrev pub number_of : Refusal → ℕ
number_of CommandIllFormed = 1
number_of NotAPerson = 2
number_of NoSuchHook = 3
number_of ValueOutOfRange = 4
number_of NoSuchCondition = 5
number_of GranteeIsCallerOrOwner = 6
number_of NoSuchGrant = 7
number_of NotTheGrantor = 8
number_of NumbersSpent = 9
number_of RecordFull = 10
number_of NoChain = 11
number_of KeyNotIn = 12
number_of KeyNotOut = 13
number_of NotPromised = 14
number_of AlreadyFitted = 15
number_of FittingIllFormed = 16
number_of ConditionsIllFormed = 17

-- the layer that refuses: 1 is the command's, 17 the conditions', all others the cabinet's
abbrev pub layer_of : Refusal → Layer
layer_of CommandIllFormed = Command
layer_of NotAPerson = Cabinet
layer_of NoSuchHook = Cabinet
layer_of ValueOutOfRange = Cabinet
layer_of NoSuchCondition = Cabinet
layer_of GranteeIsCallerOrOwner = Cabinet
layer_of NoSuchGrant = Cabinet
layer_of NotTheGrantor = Cabinet
layer_of NumbersSpent = Cabinet
layer_of RecordFull = Cabinet
layer_of NoChain = Cabinet
layer_of KeyNotIn = Cabinet
layer_of KeyNotOut = Cabinet
layer_of NotPromised = Cabinet
layer_of AlreadyFitted = Cabinet
layer_of FittingIllFormed = Cabinet
layer_of ConditionsIllFormed = Conditions

-- a refusal at a place
abbrev pub fault : Refusal → ℕ → Fault
fault refusal place = record { refusal = refusal; place = place; layer = layer_of refusal }

-- a refusal as it is printed: "no", its number and its place
abbrev pub printed : Fault → List ℕ
printed f = codes "no " ++ (decimal (number_of f.refusal) ++ (codes " " ++ decimal f.place))
