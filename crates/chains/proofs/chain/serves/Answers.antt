use Rattle.std.proofs.Common.{Decides, sym, subst}
use Rattle.chains.specs.Chains.{Serves}
use Rattle.chains.specs.Laws.{recorded}
use Rattle.chains.proofs.Gathered.{draw_laws}
use Rattle.chains.proofs.Sound.{decides_serves}
use Rattle.chains.proofs.chain.serves.Goals as goal

pub returns : goal.returns
returns g c =
    let m = g.L.Language.says c.args.language.now in
    let d = c.args.draw.now in
    record {
      decides = λ all holds.
          subst (λ b. Decides b (Serves m recorded all d.hook d.owner d.person d.state c.args.chain.now)) (sym c.justifies.ensures)
          (decides_serves m recorded all d.hook d.owner d.person d.state c.args.chain.now holds);
      laws = draw_laws;
    }
