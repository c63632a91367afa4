use Rattle.places.proofs.Members.{member_and}
use Rattle.places.proofs.meet.Goals as goal

pub returns-clause-law : goal.returns-clause-law
returns-clause-law c = member_and c.args.set c.args.other
