use Rattle.std.proofs.Common.{[], ◌∷◌, ap, ◌∙◌}
use Rattle.faults.specs.declared.Refusal.TheVariants.{NotAPerson}
use Rattle.plain.specs.Record.{check, passed}
use Rattle.plain.proofs.Gathered.{record_laws}
use Rattle.plain.proofs.check_person.Goals as goal

pub returns : goal.returns
returns c =
    record {
      is = c.refuse_if.ensures ∙ ap (λ b. passed (check b NotAPerson c.args.tag ∷ [])) c.is_nobody.ensures;
      laws = record_laws;
    }
