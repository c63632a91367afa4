use Rattle.std.proofs.Common.{◌<◌, arith, rules}
use Rattle.grants.specs.Blank.{blank}
use Rattle.search.proofs.record.Record.all.Goals as goal

pub returns : goal.returns
returns c = λ i lt.
    let low : i < 128 = omega (arith, lt, c.args.self.now.few) in
    let told = c.select.ensures.passing i blank lt low in
    search rules
