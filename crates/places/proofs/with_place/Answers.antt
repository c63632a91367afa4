use Rattle.std.proofs.Common.{◌&&◌, ◌||◌, eqb, sym, ap, ◌∙◌}
use lib.Bits.{bit_or}
use Rattle.std.proofs.lemmas.Nat.{one_shl}
use Rattle.std.proofs.lemmas.Bool.{lt-ltb}
use Rattle.places.specs.Sets.{member}
use Rattle.places.proofs.Members.{with_one}
use Rattle.places.proofs.with_place.Goals as goal

pub returns-then-i-lt128 : goal.returns-then-i-lt128
returns-then-i-lt128 c = λ j.
    ap (λ p. member (bit_or c.args.set p) j) (one_shl c.args.i 128 c.if-i-lt128.true)
    ∙ with_one c.args.set c.args.i j
    ∙ ap (λ low. member c.args.set j || (low && eqb j c.args.i)) (sym (lt-ltb c.args.i 128 c.if-i-lt128.true))
