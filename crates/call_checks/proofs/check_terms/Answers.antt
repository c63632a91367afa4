use Rattle.std.proofs.Common.{[], ◌∷◌, None, sym, ◌∙◌}
use Rattle.states.specs.Ranges.{range_check}
use Rattle.states.specs.Reports.{state_of}
use Rattle.plain.specs.Record.{found, condition}
use Rattle.plain.proofs.Checked.{through, passed_on}
use Rattle.call_checks.proofs.check_terms.Goals as goal

pub returns : goal.returns
returns c =
    c.check_conditions.ensures
    ∙ sym (through (found (range_check (state_of c.args.caller None c.args.report.now)) ∷ []) (condition c.args.count c.args.execute 5 ∷ condition c.args.count c.args.onward 6 ∷ []) _ c.in_ok-check_report.ensures)

pub returns-in_err-check_report : goal.returns-in_err-check_report
returns-in_err-check_report c =
    passed_on c.from_residual.result _ c.from_residual.ensures.1
    (found (range_check (state_of c.args.caller None c.args.report.now)) ∷ []) (condition c.args.count c.args.execute 5 ∷ condition c.args.count c.args.onward 6 ∷ []) c.in_err-check_report.ensures
