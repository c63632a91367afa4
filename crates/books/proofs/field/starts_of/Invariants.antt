use Rattle.std.proofs.Common.{◌-◌, length}
use Rattle.arrayvec.specs.ArrayVec.{array_vec_len}
use Rattle.books.specs.Books.{Placed}
use Rattle.books.proofs.Fields.{Walk}
use Rattle.books.proofs.field.starts_of.Given as goal

abbrev pub invariant-loop-at : goal.invariant-loop-at
invariant-loop-at l = record { walk : Walk l.bytes l.at (array_vec_len l.starts); placed : Placed l.bytes (array_vec_len l.starts) l.starts.items }

abbrev pub decreases-loop-at : goal.decreases-loop-at
decreases-loop-at l = length l.bytes - l.at
