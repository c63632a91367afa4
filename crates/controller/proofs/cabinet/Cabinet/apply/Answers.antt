use Rattle.std.proofs.Common.{ap, ◌∙◌}
use Rattle.controller.specs.declared.run.Answer.TheVariants as answers
use Rattle.controller.specs.Cabinets.{world}
use Rattle.controller.specs.Runs.{written, slip_shown, spent_shown}
use Rattle.controller.proofs.Shown.{number_told, orphans_told, done_told, spent_told, slip_told, made_so}
use Rattle.controller.proofs.cabinet.Cabinet.apply.Goals as goal

pub returns-in-Fit : goal.returns-in-Fit
returns-in-Fit g c =
    let s = c.args.self.now in
    let so = made_so g.L.Language.size g.L.Language.says s _ _ _ _ c.in-Fit.is (c.done_told.ensures ∙ ap (written (λ _. answers.Done)) c.fit.ensures.is ∙ done_told (world s) _ _) c.fit.ensures.after in
    record { is = so.0; after = so.1 }

pub returns-in-Issue : goal.returns-in-Issue
returns-in-Issue g c =
    let s = c.args.self.now in
    let so = made_so g.L.Language.size g.L.Language.says s _ _ _ _ c.in-Issue.is (c.number_told.ensures ∙ ap (written answers.Number) c.issue.ensures.is ∙ number_told (world s) _ _ _) c.issue.ensures.after in
    record { is = so.0; after = so.1 }

pub returns-in-Amend : goal.returns-in-Amend
returns-in-Amend g c =
    let s = c.args.self.now in
    let so = made_so g.L.Language.size g.L.Language.says s _ _ _ _ c.in-Amend.is (c.number_told-in-Amend.ensures ∙ ap (written answers.Number) c.amend.ensures.is ∙ number_told (world s) _ _ _) c.amend.ensures.after in
    record { is = so.0; after = so.1 }

pub returns-in-Withdraw : goal.returns-in-Withdraw
returns-in-Withdraw g c =
    let s = c.args.self.now in
    let so = made_so g.L.Language.size g.L.Language.says s _ _ _ _ c.in-Withdraw.is (c.orphans_told.ensures ∙ ap (written answers.Orphaned) c.withdraw.ensures.is ∙ orphans_told (world s) _ _ _) c.withdraw.ensures.after in
    record { is = so.0; after = so.1 }

pub returns-in-Draw : goal.returns-in-Draw
returns-in-Draw g c =
    let s = c.args.self.now in
    let so = made_so g.L.Language.size g.L.Language.says s _ _ _ _ c.in-Draw.is (c.slip_told.ensures ∙ (λ i. slip_shown (c.draw-slip.ensures.is i) (c.draw-slip.ensures.list i)) ∙ slip_told (world s) _ _ _ _ _ _) c.draw-slip.ensures.after in
    record { is = so.0; after = so.1 }

pub returns-in-Take : goal.returns-in-Take
returns-in-Take g c =
    let s = c.args.self.now in
    let so = made_so g.L.Language.size g.L.Language.says s _ _ _ _ c.in-Take.is (c.spent_told.ensures ∙ ap spent_shown c.take.ensures.is ∙ spent_told (world s) _ _ _) c.take.ensures.after in
    record { is = so.0; after = so.1 }

pub returns-in-Leave : goal.returns-in-Leave
returns-in-Leave g c =
    let s = c.args.self.now in
    let so = made_so g.L.Language.size g.L.Language.says s _ _ _ _ c.in-Leave.is (c.spent_told-in-Leave.ensures ∙ ap spent_shown c.leave.ensures.is ∙ spent_told (world s) _ _ _) c.leave.ensures.after in
    record { is = so.0; after = so.1 }

pub returns-in-Return : goal.returns-in-Return
returns-in-Return g c =
    let s = c.args.self.now in
    let so = made_so g.L.Language.size g.L.Language.says s _ _ _ _ c.in-Return.is (c.done_told-in-Return.ensures ∙ ap (written (λ _. answers.Done)) c.give_back.ensures.is ∙ done_told (world s) _ _) c.give_back.ensures.after in
    record { is = so.0; after = so.1 }
