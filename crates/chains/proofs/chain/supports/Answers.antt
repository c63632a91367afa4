use Rattle.std.proofs.Common.{Decides, sym, subst}
use Rattle.chains.specs.Chains.{Supports}
use Rattle.chains.specs.Laws.{recorded}
use Rattle.chains.proofs.Gathered.{grant_laws}
use Rattle.chains.proofs.Sound.{decides_supports}
use Rattle.chains.proofs.chain.supports.Goals as goal

pub returns : goal.returns
returns g c =
    let m = g.L.Language.says c.args.language.now in
    record {
      decides = λ all holds.
          subst (λ b. Decides b (Supports m recorded all (λ _. c.args.owner) c.args.grant.now c.args.chain.now)) (sym c.justifies.ensures)
          (decides_supports m recorded all (λ _. c.args.owner) c.args.grant.now c.args.chain.now holds);
      laws = grant_laws;
    }
