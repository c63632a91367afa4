use Rattle.std.proofs.Common.{◌∙◌}
use Rattle.controller_cases.proofs.Spending.{leaves, takes, comes_back}
use Rattle.controller_cases.proofs.visits.spend.Goals as goal

pub returns-in-Taken : goal.returns-in-Taken
returns-in-Taken g c =
    record {
      home = λ h. c.take.ensures.is ∙ takes g.L.Language.size g.L.Language.says c.args.cabinet.now c.args.slip h;
      back = comes_back c.args.slip _ c.take.result c.take.ensures.is;
    }

pub returns-in-Left : goal.returns-in-Left
returns-in-Left g c =
    record {
      home = λ h. c.leave.ensures.is ∙ leaves g.L.Language.size g.L.Language.says c.args.cabinet.now c.args.slip h;
      back = comes_back c.args.slip _ c.leave.result c.leave.ensures.is;
    }
