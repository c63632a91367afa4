use Rattle.std.proofs.Common.{◌∙◌, sym}
use Rattle.std.proofs.lemmas.Bool.{le-ltb}
use Rattle.places.proofs.Members.{member_high}
use Rattle.places.proofs.has.Goals as goal

pub returns-else-i-lt128 : goal.returns-else-i-lt128
returns-else-i-lt128 c = le-ltb c.args.i 128 c.if-i-lt128.false ∙ sym (member_high c.args.set 128 c.args.i c.ranges.set.fits c.if-i-lt128.false)
