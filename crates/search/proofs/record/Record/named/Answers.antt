use Rattle.std.proofs.Common.{◌≡◌, map, arith}
use Rattle.std.specs.List.{range_with_len}
use Rattle.std.proofs.lemmas.List.FromFn.{fill_by_all}
use Rattle.search.specs.Answers.{entry}
use Rattle.search.proofs.record.Record.named.Goals as goal

pub returns : goal.returns
returns c =
    let f = entry c.args.self.now.grants.now c.args.route.now in
    let numbers : c.loop-k.number-items ≡ map f (range_with_len 0 8) =
    fill_by_all f c.loop-k.number-items 8 0 c.loop-k-test.array_long (λ k lt. c.loop-k.invariant k (omega (arith, c.loop-k-test.false, c.loop-k-test.array_long))) in
    λ i. record { numbers = numbers i; length = c.args.route.now.length }
