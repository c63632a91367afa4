use Rattle.std.proofs.Common.{arith}
use Rattle.files.proofs.try_print_made.Goals as goal

pub returns : goal.returns
returns g c = λ e. (c.alloc.result, c.as_slice.result, c.in_ok-text.text, omega (arith, c.as_slice.ensures.len, c.in-Ok.ensures), c.in_ok-text.ensures)
