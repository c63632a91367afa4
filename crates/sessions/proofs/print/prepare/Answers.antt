use Rattle.std.proofs.Common.{Ok, Err}
use Rattle.std.proofs.lemmas.Result.{err_from_is_err_and}
use Rattle.frames.specs.Views.{parts_of}
use Rattle.sessions.specs.Sessions.{prepared}
use Rattle.sessions.specs.Performing.{judgement}
use Rattle.sessions.proofs.Starts.{err_passed_on, fit_told, fitted, fit_refused, fit_accepted}
use Rattle.sessions.proofs.print.prepare.Goals as goal

pub returns-in_err-fit : goal.returns-in_err-fit
returns-in_err-fit g c =
    let p = err_from_is_err_and c.from_residual.result c.from_residual.ensures.1 in
    let e = c.in_err-fit.field-0.0 in
    fitted g.L.Language.size g.L.Language.says c.args.cabinet.now c.fit.new.self (parts_of c.args.parts) c.requires.fresh c.from_residual.result c.in_err-fit.ensures.after
    (err_passed_on c.from_residual.result (judgement (prepared (parts_of c.args.parts))) p.0 e p.1 p.2 (fit_refused (parts_of c.args.parts) e (fit_told g.L.Language.size g.L.Language.says c.args.cabinet.now c.fit.new.self (parts_of c.args.parts) c.requires.fresh (Err e) c.in_err-fit.ensures.is)))

pub returns-in_err-check : goal.returns-in_err-check
returns-in_err-check g c =
    let p = err_from_is_err_and c.from_residual-in_err-check.result c.from_residual-in_err-check.ensures.1 in
    let e = c.in_err-check.field-0.0 in
    fitted g.L.Language.size g.L.Language.says c.args.cabinet.now c.fit.new.self (parts_of c.args.parts) c.requires.fresh c.from_residual-in_err-check.result c.in_ok-fit.ensures.after
    (err_passed_on c.from_residual-in_err-check.result (judgement (prepared (parts_of c.args.parts))) p.0 e p.1 p.2 (fit_accepted (parts_of c.args.parts) tt (Err e) (fit_told g.L.Language.size g.L.Language.says c.args.cabinet.now c.fit.new.self (parts_of c.args.parts) c.requires.fresh (Ok tt) c.in_ok-fit.ensures.is) c.in_err-check.ensures.is))

pub returns : goal.returns
returns g c =
    fitted g.L.Language.size g.L.Language.says c.args.cabinet.now c.fit.new.self (parts_of c.args.parts) c.requires.fresh (Ok tt) c.in_ok-fit.ensures.after
    (fit_accepted (parts_of c.args.parts) tt (Ok c.in_ok-check.field-0) (fit_told g.L.Language.size g.L.Language.says c.args.cabinet.now c.fit.new.self (parts_of c.args.parts) c.requires.fresh (Ok tt) c.in_ok-fit.ensures.is) c.in_ok-check.ensures.is)
