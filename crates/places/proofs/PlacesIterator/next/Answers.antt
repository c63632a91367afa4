use Rattle.std.proofs.Common.{◌<◌, ◌≡◌, true, eqb, refl, subst, sym, ap, ◌∙◌, ◌||◌, ◌&&◌}
use Rattle.std.specs.Prelude.{nat_lt}
use Rattle.std.proofs.lemmas.Bool.{eq-eqb, lt-ltb}
use Rattle.places.specs.Sets.{member}
use Rattle.places.proofs.Members.{smaller, member_zero}
use Rattle.places.proofs.PlacesIterator.next.Goals as goal

pub returns-clause-goes : goal.returns-clause-goes
returns-clause-goes c =
    let i = c.in_ok-i.i in
    let s = c.args.self.now.rest in
    let one : member c.with_place.result i ≡ true =
    c.with_place.ensures i ∙ ap (λ b. b || (nat_lt i 128 && eqb i i)) (member_zero i)
    ∙ ap (λ b. b && eqb i i) (lt-ltb i 128 c.in_ok-i.ensures.0) ∙ eq-eqb i i refl in
    let less : c.without-self.result < s = subst (λ t. t < s) (sym c.without-self.ensures.is) (smaller s c.with_place.result i c.in_ok-i.ensures.1 one) in
    record { on = λ _. (tt, tt, less); keeps = tt; rests = λ _. tt }
