-- Where a slip can be spent.
use Rattle.std.specs.Prelude.{◌≡◌}
use Rattle.loans.specs.declared.state.HookState.TheVariants.{Promised}
use Rattle.plain.specs.Record.{hook_at}
use Rattle.controller.specs.declared.cabinet.Cabinet.{Cabinet}
use Rattle.controller.specs.declared.slip.Slip.{Slip}
use Rattle.controller.specs.Cabinets.{world}

-- the slip's hook is promised to the slip's person
abbrev pub Home : {L : Type 0} → Cabinet L → Slip → Type 0
Home c slip = hook_at (world c) slip.hook ≡ Promised slip.person
