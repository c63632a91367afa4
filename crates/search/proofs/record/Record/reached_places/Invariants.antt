use Rattle.std.proofs.Common.{◌≡◌, ℕ, true}
use Rattle.places.specs.Sets.{member}
use Rattle.search.specs.Asked.{ReachedAt, DecidedTo}
use Rattle.search.proofs.record.Record.reached_places.Given as goal

abbrev pub invariant-loop-i : goal.invariant-loop-i
invariant-loop-i l =
    DecidedTo (ReachedAt l.plan.links l.self.grants.now l.columns l.owners) l.set l.i
    × ((k : ℕ) → member l.resting k ≡ true → ReachedAt l.plan.links l.self.grants.now l.columns l.owners k → ⊥)
