use Rattle.numbered.proofs.Laws.{kept_if_none}
use Rattle.register.proofs.Same.{same}
use Rattle.register.proofs.table.Register.remove.Goals as goal

pub returns : goal.returns
returns c =
    record {
      is = c.remove.ensures.is;
      after = c.remove.ensures.after;
      refused = kept_if_none c.remove.result (λ k. same _ _ k.0 k.1) c.remove.ensures.refused;
    }
