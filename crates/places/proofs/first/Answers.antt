use Rattle.std.proofs.Common.{eqb, ap, arith}
use Rattle.std.specs.Int.{w128}
use Rattle.std.proofs.lemmas.Nat.Bits.{bit_at-trailing_zeros}
use Rattle.places.proofs.first.Goals as goal

pub returns : goal.returns
returns c =
    let lowest = bit_at-trailing_zeros w128 c.args.set (omega (arith, c.if-set-eq0.false)) c.ranges.set.fits in
    (lowest.0, ap (λ z. eqb z 1) lowest.1, λ j lt. ap (λ z. eqb z 1) (lowest.2 j lt))
