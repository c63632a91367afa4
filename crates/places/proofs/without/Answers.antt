use Rattle.places.proofs.Members.{member_without}
use Rattle.places.proofs.without.Goals as goal

pub returns-clause-law : goal.returns-clause-law
returns-clause-law c = member_without c.args.set c.args.gone
