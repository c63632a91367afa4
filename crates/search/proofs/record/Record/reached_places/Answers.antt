use Rattle.std.proofs.Common.{◌≡◌, ℕ, ◌+◌, ◌<◌, true, Decides, sym, subst, arith}
use Rattle.std.proofs.lemmas.Bool.{both_ways}
use Rattle.places.specs.Sets.{member}
use Rattle.search.specs.Asked.{ReachedAt, DecidedTo}
use Rattle.search.proofs.Marked.{decided_in, decided_out, rests_more}
use Rattle.search.proofs.Found.{reached_at}
use Rattle.search.proofs.Prefix.{usable_enough}
use Rattle.search.proofs.record.Record.reached_places.Goals as goal
use Rattle.search.proofs.record.Record.reached_places.Goals.{then-is_reached, else-is_reached}

pub loop-i-preserved : goal.loop-i-preserved
loop-i-preserved c =
    let l = c.args.plan.now.links in
    let r = c.args.self.now.grants.now in
    let columns = c.args.columns.now in
    let owners = c.args.owners.now in
    let R : ℕ → Type 0 = ReachedAt l r columns owners in
    let i = c.loop-i.i in
    let lt = c.loop-i-test.true in
    let low : i < 96 = omega (arith, lt, c.args.self.now.few) in
    let here : Decides c.is_reached.result (R i) =
    usable_enough r l columns owners c.requires.linked c.requires.hooks c.loop-i.resting c.loop-i.invariant.1 i lt c.is_reached.result
    (reached_at l r i _ owners c.is_reached.result c.owner_of.result c.without-usable.result _ lt c.owner_of.ensures c.without-usable.ensures.is c.is_reached.ensures) in
    elim c.if-is_reached.branch [
      | then-is_reached w ↦ (
        subst (λ s. DecidedTo R s (i + 1)) (sym w.set-is) (decided_in R c.loop-i.set _ i (omega (arith, low)) w.with_place-set.ensures c.loop-i.invariant.0 (here.0 w.if-is_reached.true)),
        subst (λ s. (k : ℕ) → member s k ≡ true → R k → ⊥) (sym w.resting-is) c.loop-i.invariant.1,
      )
      | else-is_reached w ↦
          let rests : R i → ⊥ = λ x. both_ways c.is_reached.result w.if-is_reached.false (here.1 x) in (
            subst (λ s. DecidedTo R s (i + 1)) (sym w.set-is) (decided_out R c.loop-i.set i c.loop-i.invariant.0 rests),
            subst (λ s. (k : ℕ) → member s k ≡ true → R k → ⊥) (sym w.resting-is) (rests_more R c.loop-i.resting _ i w.with_place-resting.ensures c.loop-i.invariant.1 rests),
          )
    ]
