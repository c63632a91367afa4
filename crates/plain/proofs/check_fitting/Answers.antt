use Rattle.std.proofs.Common.{◌%◌, not, eqb, [], ◌∷◌, ◌++◌, length, Err, sym, ap, ◌∙◌}
use Rattle.std.proofs.lemmas.Result.{err_from_is_err_and}
use Rattle.faults.specs.declared.Fault.{Fault}
use Rattle.faults.specs.declared.Refusal.TheVariants.{AlreadyFitted, FittingIllFormed}
use Rattle.plain.specs.Record.{check, passed, owners_from}
use Rattle.plain.proofs.Checked.{through, stopped}
use Rattle.plain.proofs.check_fitting.Goals as goal

pub returns : goal.returns
returns c =
    let owners = c.args.owners.now in
    let set = check (not (eqb (c.args.kept % 4) 0)) FittingIllFormed 33 ∷ [] in
    c.refuse_if-3.ensures
    ∙ ap (λ b. passed (check b FittingIllFormed 33 ∷ [])) c.names_filled_in.ensures
    ∙ sym (
    through (check c.args.fitted AlreadyFitted 0 ∷ []) (check (not (eqb (length owners) 32)) FittingIllFormed 32 ∷ (owners_from 0 owners ++ set)) _ c.in_ok-refuse_if.ensures
    ∙ through (check (not (eqb (length owners) 32)) FittingIllFormed 32 ∷ []) (owners_from 0 owners ++ set) _ c.in_ok-refuse_if-2.ensures
    ∙ through (owners_from 0 owners) set _ c.in_ok-check_owners.ensures
    )

pub returns-in_err-check_owners : goal.returns-in_err-check_owners
returns-in_err-check_owners c =
    let owners = c.args.owners.now in
    let set = check (not (eqb (c.args.kept % 4) 0)) FittingIllFormed 33 ∷ [] in
    let p = err_from_is_err_and c.from_residual-in_err-check_owners.result c.from_residual-in_err-check_owners.ensures.1 in
    p.1
    ∙ ap (λ (f : Fault). Err f) p.2
    ∙ stopped (owners_from 0 owners) set _ c.in_err-check_owners.ensures
    ∙ sym (
    through (check c.args.fitted AlreadyFitted 0 ∷ []) (check (not (eqb (length owners) 32)) FittingIllFormed 32 ∷ (owners_from 0 owners ++ set)) _ c.in_ok-refuse_if.ensures
    ∙ through (check (not (eqb (length owners) 32)) FittingIllFormed 32 ∷ []) (owners_from 0 owners ++ set) _ c.in_ok-refuse_if-2.ensures
    )
