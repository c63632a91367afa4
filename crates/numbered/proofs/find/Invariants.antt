use Rattle.std.proofs.Common.{◌≡◌, drop}
use Rattle.numbered.specs.Rows.{place_of, place_from}
use Rattle.numbered.proofs.find.Given as goal

abbrev pub invariant-loop-i : goal.invariant-loop-i
invariant-loop-i g l = place_from g.T.Numbered.label l.n l.i (drop l.i l.rows) ≡ place_of g.T.Numbered.label l.n l.rows
