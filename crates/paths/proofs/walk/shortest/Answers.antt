use Rattle.std.proofs.Common.{◌≡◌, ℕ, ◌-◌, ◌<◌, ◌≤◌, length, replicate, sym, subst, arith}
use Rattle.std.proofs.lemmas.List.{length-take}
use Rattle.paths.proofs.Memories.{knows_front}
use Rattle.paths.proofs.Walks.{filled}
use Rattle.paths.proofs.walk.shortest.Goals as goal

pub returns-then-walk : goal.returns-then-walk
returns-then-walk c =
    let k = c.loop-k.k in
    let rest = c.walk.new.path in
    let low : k ≤ c.args.most = omega (arith, c.loop-k-test.true) in
    let long : length rest ≡ k = omega (arith, c.walk.auto.path, c.requires.most, length-take (k - 0) (replicate {A = ℕ} 8 0)) in (
      rest,
      filled k rest long,
      subst (λ m. m ≤ c.args.most) (sym long) low,
      c.if-walk.ensures.found,
      λ q lt s. c.loop-k.invariant q (subst (λ m. length q < m) long lt) s,
    )

pub walk-requires-clause-knows : goal.walk-requires-clause-knows
walk-requires-clause-knows c = knows_front c.args.net.now.plan.now c.args.net.now.target (c.loop-k.k - 0) (omega (arith, c.requires.most, c.loop-k-test.true))
