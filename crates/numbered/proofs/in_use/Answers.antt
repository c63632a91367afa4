use Rattle.std.proofs.Common.{sym, arith}
use Rattle.std.proofs.lemmas.List.{length-take-le, length-take}
use Rattle.numbered.proofs.in_use.Goals as goal

pub returns-then-count-rows : goal.returns-then-count-rows
returns-then-count-rows g c = record { is = sym (length-take-le c.args.count c.args.rows.now (omega arith)); within = omega arith }

pub returns-else-count-rows : goal.returns-else-count-rows
returns-else-count-rows g c = record { is = omega (arith, length-take c.args.count c.args.rows.now); within = omega arith }
