-- The language of the cases: each condition of its own asks for some groups.
use Rattle.std.specs.Prelude.{ℕ, cond, Some, None, Option, ◌==◌, bit_and, refl}
use Rattle.std.proofs.Common.{arith}
use Rattle.states.specs.declared.state.State.{State}
use Rattle.states.specs.States.{known, ToldMore}
use Rattle.conditions.specs.declared.truth.Truth.{Truth}
use Rattle.conditions.specs.declared.truth.Truth.TheVariants.{True, False, Unknown}
use Rattle.conditions.specs.Laws.{Lawful, Stays}
use Rattle.conditions.specs.Own.{with_own}
use Rattle.conditions.specs.OwnLaws.{own_lawful}
use Rattle.conditions.specs.Steady.{test_steady}

-- every group of the mask is among the known ones
abbrev pub in_mask : ℕ → Option ℕ → Truth
in_mask mask None = Unknown
in_mask mask (Some groups) = cond (bit_and groups mask == mask) True False

abbrev pub mask_truth : ℕ → State → Truth
mask_truth mask s = in_mask mask (known s 4)

abbrev pub masks : ℕ → State → Truth
masks = with_own 1022 mask_truth

masks_steady : (mask : ℕ) (s t : State) → ToldMore s t → Stays (mask_truth mask s) (mask_truth mask t)
masks_steady mask s t more = test_steady (in_mask mask) refl (known s 4) (known t 4) (λ n e. more 4 n e)

pub masks_lawful : Lawful 1024 masks
masks_lawful = own_lawful 1022 mask_truth (omega arith) masks_steady
