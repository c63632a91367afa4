use Rattle.places.proofs.Members.{member_or}
use Rattle.places.proofs.join.Goals as goal

pub returns : goal.returns
returns c = member_or c.args.set c.args.other
