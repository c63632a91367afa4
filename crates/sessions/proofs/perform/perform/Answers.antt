use Rattle.sessions.proofs.Draws.{issued, amended, withdrawn}
use Rattle.sessions.proofs.perform.perform.Goals as goal

pub returns-in-Issue : goal.returns-in-Issue
returns-in-Issue g c =
    issued g.L.Language.size g.L.Language.says c.args.cabinet.now c.args.command c.issue.result c.issue.new.self
    c.in-Issue.caller c.in-Issue.hook c.in-Issue.grantee c.in-Issue.terms c.in-Issue.is c.issue.ensures.is c.issue.ensures.after

pub returns-in-Amend : goal.returns-in-Amend
returns-in-Amend g c =
    amended g.L.Language.size g.L.Language.says c.args.cabinet.now c.args.command c.amend.result c.amend.new.self
    c.in-Amend.caller c.in-Amend.number c.in-Amend.terms c.in-Amend.is c.amend.ensures.is c.amend.ensures.after

pub returns-in-Withdraw : goal.returns-in-Withdraw
returns-in-Withdraw g c =
    withdrawn g.L.Language.size g.L.Language.says c.args.cabinet.now c.args.command c.withdraw.result c.withdraw.new.self c.in-Withdraw.caller c.in-Withdraw.number c.in-Withdraw.is
    c.withdraw.ensures.is c.withdraw.ensures.after
