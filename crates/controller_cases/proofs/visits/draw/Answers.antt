use Rattle.controller_cases.proofs.Spending.{home}
use Rattle.controller_cases.proofs.visits.draw.Goals as goal

pub returns : goal.returns
returns g c =
    home g.L.Language.size g.L.Language.says c.args.cabinet.now c.draw.new.self c.args.caller c.args.hook c.args.report.now c.draw.result c.draw.ensures.is c.draw.ensures.after
