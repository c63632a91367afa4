use Rattle.std.proofs.Common.{◌≡◌, length}
use Rattle.search.specs.Asked.{ColumnsTo}
use Rattle.search.proofs.record.Record.columns.Given as goal

abbrev pub invariant-loop-j : goal.invariant-loop-j
invariant-loop-j g l = (length l.columns ≡ 96) × ColumnsTo (g.L.Language.says l.language) l.self.grants.now l.among l.j l.columns
