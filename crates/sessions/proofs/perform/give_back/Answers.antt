use Rattle.std.proofs.Common.{ℕ, Err, Result, sym, ap, ◌∙◌, subst}
use Rattle.std.proofs.lemmas.Result.{err_from_is_err_and}
use Rattle.faults.specs.declared.Fault.{Fault}
use Rattle.command_words.specs.declared.Command.TheVariants.{Return}
use Rattle.sessions.specs.Performing.{Performs}
use Rattle.sessions.proofs.Draws.{returned, not_returned}
use Rattle.sessions.proofs.perform.give_back.Goals as goal

pub returns-in_err-give_back : goal.returns-in_err-give_back
returns-in_err-give_back g c =
    let p = err_from_is_err_and c.from_residual.result c.from_residual.ensures.1 in
    subst (λ (r : Result ℕ Fault). Performs g.L.Language.size g.L.Language.says c.args.cabinet.now (Return c.args.caller c.args.hook) r c.give_back.new.self)
    (sym (p.1 ∙ ap (λ (f : Fault). Err f) p.2))
    (not_returned g.L.Language.size g.L.Language.says c.args.cabinet.now c.give_back.new.self c.args.caller c.args.hook c.in_err-give_back.ensures.after c.in_err-give_back.field-0.0 c.in_err-give_back.ensures.is)

pub returns : goal.returns
returns g c =
    returned g.L.Language.size g.L.Language.says c.args.cabinet.now c.give_back.new.self c.args.caller c.args.hook c.in_ok-give_back.ensures.after tt c.in_ok-give_back.ensures.is
