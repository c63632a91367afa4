use Rattle.std.proofs.Common.{ℕ, Err, Result, sym, ap, ◌∙◌, subst}
use Rattle.std.proofs.lemmas.Result.{err_from_is_err_and}
use Rattle.faults.specs.declared.Fault.{Fault}
use Rattle.command_words.specs.declared.Command.TheVariants.{Draw}
use Rattle.sessions.specs.Performing.{Performs}
use Rattle.sessions.proofs.Draws.{draw_refused, draw_promised, draw_spent}
use Rattle.sessions.proofs.perform.draw.Goals as goal

pub returns-in_err-slip : goal.returns-in_err-slip
returns-in_err-slip g c =
    let p = err_from_is_err_and c.from_residual.result c.from_residual.ensures.1 in
    subst (λ (r : Result ℕ Fault). Performs g.L.Language.size g.L.Language.says c.args.cabinet.now (Draw c.args.caller c.args.hook c.args.report c.args.outcome) r c.draw.new.self)
    (sym (p.1 ∙ ap (λ (f : Fault). Err f) p.2))
    (draw_refused g.L.Language.size g.L.Language.says c.args.cabinet.now c.args.caller c.args.hook c.args.report c.args.outcome c.in_err-slip.field-0.0 c.draw.new.self c.in_err-slip.ensures.is c.in_err-slip.ensures.after)

pub spend-requires : goal.spend-requires
spend-requires g c =
    draw_promised g.L.Language.size g.L.Language.says c.args.cabinet.now c.args.caller c.args.hook c.args.report c.args.outcome c.in_ok-slip.slip c.draw.new.self c.in_ok-slip.ensures.is c.in_ok-slip.ensures.after

pub returns : goal.returns
returns g c =
    draw_spent g.L.Language.size g.L.Language.says c.args.cabinet.now c.args.caller c.args.hook c.args.report c.args.outcome c.in_ok-slip.slip c.draw.new.self c.spend.new.cabinet c.length-length.result
    c.in_ok-slip.ensures.is c.in_ok-slip.ensures.after c.spend.ensures c.length-length.ensures
