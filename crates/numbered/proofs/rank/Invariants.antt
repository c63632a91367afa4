use Rattle.std.proofs.Common.{◌≡◌, ◌+◌, drop}
use Rattle.numbered.specs.Rows.{before}
use Rattle.numbered.proofs.rank.Given as goal

abbrev pub invariant-loop-i : goal.invariant-loop-i
invariant-loop-i g l = l.i + before g.T.Numbered.label l.n (drop l.i l.rows) ≡ before g.T.Numbered.label l.n l.rows
