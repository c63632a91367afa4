use Rattle.std.proofs.Common.{length, is_some, ap, ◌∙◌, arith}
use Rattle.std.proofs.lemmas.Bool.{lt-leb}
use Rattle.numbered.specs.Answers.{answer_to, insertion, after_insertion}
use Rattle.numbered.proofs.Laws.{kept_unless_added, none_above, put_laws}
use Rattle.register.specs.Held.{held, numbers}
use Rattle.register.proofs.Same.{same}
use Rattle.register.proofs.table.Register.insert.Goals as goal

pub returns : goal.returns
returns c =
    let grant = c.args.grant in
    let old = held c.args.self.now in
    let is = c.insert.ensures.is ∙ ap (λ n. insertion numbers grant n old) c.args.self.now.sized in
    record {
      is = is;
      after = c.insert.ensures.after;
      refused = kept_unless_added c.insert.result (λ k. same _ _ k.0 k.1) c.insert.ensures.refused;
      law =
          λ below room.
          let added = is ∙ (λ i. answer_to (is_some (none_above numbers grant.number grant.number old below (omega arith) i)) (lt-leb 96 (length old) room i)) in
          (added, c.insert.ensures.after ∙ ap (after_insertion numbers grant old) added ∙ (put_laws numbers grant old).last below);
    }
