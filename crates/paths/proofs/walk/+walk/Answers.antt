use Rattle.std.proofs.Common.{◌≡◌, suc, ◌-◌, ◌<◌, length, get_or, take, drop, sym, refl, ap, ◌∙◌, subst, arith, rules}
use Rattle.std.proofs.lemmas.List.{length-take, length-drop}
use Rattle.std.proofs.lemmas.Bool.{and_parts}
use lib.Bits.{bit_and}
use Rattle.places.specs.Sets.{member}
use Rattle.places.specs.declared.Places.{Places}
use Rattle.paths.specs.Chains.{link}
use Rattle.paths.specs.Plans.{step}
use Rattle.paths.specs.Steps.{First, Never}
use Rattle.paths.specs.Memories.{Inside}
use Rattle.paths.proofs.Walks.{first_here, never_from, none_but, none_more, none_below, NoneBut, written, put_length}
use Rattle.paths.proofs.Nears.{covers, inside_less, begins}
use Rattle.paths.proofs.Memories.{never_away, knows_head, knows_rest, knows_put, knows_note}
use Rattle.paths.proofs.walk.+walk.Goals as goal

pub returns-then-meet-eq0-clause-found : goal.returns-then-meet-eq0-clause-found
returns-then-meet-eq0-clause-found t c =
    let n = c.args.net.now in
    never_away n.plan.now n.target n.near n.last n.base n.ready c.args.search.allowed c.args.search.person (length c.args.path.now) (sym c.meet.ensures.is ∙ c.if-meet-eq0.true) (omega (arith, c.if-path-eq0.false))

pub returns-then-is_known-clause-found : goal.returns-then-is_known-clause-found
returns-then-is_known-clause-found t c =
    let n = c.args.net.now in
    let pos : 0 < length c.args.memory.now = omega (arith, c.if-path-eq0.false, c.requires.levels) in
    subst (Never n.plan.now n.target c.args.search.allowed c.args.search.person) c.requires.levels
    (c.if-is_known.ensures refl n.plan.now n.target (length c.args.memory.now) (knows_head n.plan.now n.target c.args.memory.now _ pos c.requires.knows))

pub loop-i-init : goal.loop-i-init
loop-i-init t c =
    let n = c.args.net.now in
    let k = length c.args.path.now in
    let is : c.meet-places.result ≡ bit_and (bit_and c.args.search.allowed c.args.from) (get_or n.near (k - 1) 0) =
    c.meet-places.ensures.is ∙ ap (λ z. bit_and z (get_or n.near (k - 1) 0)) c.meet-2.ensures.is in
    let all : c.into_iter-i-iterator.result.rest ≡ c.meet-places.result = ap (λ (p : Places). p.rest) c.into_iter-i-iterator.ensures.into_iter_gives in (
      none_but n.plan.now n.target c.into_iter-i-iterator.result.rest c.args.search.allowed c.args.search.person k
          (λ j js e s. ap (λ x. member x j) (all ∙ is) ∙ covers n.plan.now n.target n.last n.base n.near n.ready c.args.search.allowed c.args.search.person k c.args.from c.requires.from c.requires.inside c.requires.short j js e s),
      c.requires.knows,
      λ j m. ap (λ x. member x j) (sym all) ∙ m,
    )

pub walk-requires : goal.walk-requires
walk-requires t c =
    let n = c.args.net.now in
    let i = c.in-Some.i in
    let memo = c.loop-i.memory in
    let pos : 0 < length memo = omega (arith, c.if-path-eq0.false, c.requires.levels, c.loop-i.auto.memory) in
    let is : c.meet-places.result ≡ bit_and (bit_and c.args.search.allowed c.args.from) (get_or n.near (length c.args.path.now - 1) 0) =
    c.meet-places.ensures.is ∙ ap (λ z. bit_and z (get_or n.near (length c.args.path.now - 1) 0)) c.meet-2.ensures.is in
    let by = begins n.plan.now.links c.args.search.person c.args.search.allowed c.args.from _ c.meet-places.result i c.requires.from is (c.loop-i.invariant.2 i c.in-Some.ensures.steps.0.1) in
    let inside : Inside n.base c.meet-narrow.result = subst (Inside n.base) (sym c.meet-narrow.ensures.is) (inside_less n.base c.args.search.allowed (step n.plan.now.steps i).keep c.requires.inside) in (
      search rules,
      (
        inside,
        (
          simp (length-take, length-drop) (omega (arith, c.requires.short, c.loop-i.auto.path)),
          (
            n.plan.now.followed i by.0,
            (
              simp (length-take, length-drop) (omega (arith, c.requires.levels, c.loop-i.auto.memory, c.loop-i.auto.path)),
              knows_rest n.plan.now n.target memo pos c.loop-i.invariant.1,
            ),
          ),
        ),
      ),
    )

pub returns-then-walk-clause-found : goal.returns-then-walk-clause-found
returns-then-walk-clause-found t c =
    let n = c.args.net.now in
    let m = n.plan.now in
    let i = c.in-Some.i in
    let path = c.loop-i.path in
    let rest = c.walk.new.path in
    let long : length rest ≡ length path - 1 =
    omega (arith, c.walk.auto.path, length-take (length path - 1) (drop 1 path), length-drop 1 path) in
    let some : 0 < length path = omega (arith, c.if-path-eq0.false, c.loop-i.auto.path) in
    let more : suc (length rest) ≡ length path = omega arith in
    let is : c.meet-places.result ≡ bit_and (bit_and c.args.search.allowed c.args.from) (get_or n.near (length c.args.path.now - 1) 0) =
    c.meet-places.ensures.is ∙ ap (λ z. bit_and z (get_or n.near (length c.args.path.now - 1) 0)) c.meet-2.ensures.is in
    let by = begins m.links c.args.search.person c.args.search.allowed c.args.from _ c.meet-places.result i c.requires.from is (c.loop-i.invariant.2 i c.in-Some.ensures.steps.0.1) in
    let below = none_below m n.target c.loop-i.i-iterator.rest c.args.search.allowed c.args.search.person (suc (length rest)) i (λ j js out e s. c.loop-i.invariant.0 j js out (e ∙ more) s) c.in-Some.ensures.steps.0.2 in
    let here =
    first_here m n.target c.args.search.allowed c.args.search.person i rest below by.0 by.1 by.2 (subst (λ s. First m n.target s (link m.links i).taker rest) c.meet-narrow.ensures.is c.if-walk.ensures.found) in
    subst (First m n.target c.args.search.allowed c.args.search.person) (sym (written path rest i some long)) here

pub returns-then-walk-clause-knows : goal.returns-then-walk-clause-knows
returns-then-walk-clause-knows t c =
    let n = c.args.net.now in
    let memo = c.loop-i.memory in
    let pos : 0 < length memo = omega (arith, c.if-path-eq0.false, c.requires.levels, c.loop-i.auto.memory) in
    let left : length c.walk.new.memory ≡ length memo - 1 =
    omega (arith, c.walk.auto.memory, length-take (length memo - 1) (drop 1 memo), length-drop 1 memo) in
    knows_put n.plan.now n.target memo c.walk.new.memory pos left c.loop-i.invariant.1 c.if-walk.ensures.knows

pub loop-i-preserved : goal.loop-i-preserved
loop-i-preserved t c =
    let n = c.args.net.now in
    let m = n.plan.now in
    let i = c.in-Some.i in
    let a = c.args.search.allowed in
    let p = c.args.search.person in
    let path = c.loop-i.path in
    let memo = c.loop-i.memory in
    let some : 0 < length path = omega (arith, c.if-path-eq0.false, c.loop-i.auto.path) in
    let pos : 0 < length memo = omega (arith, c.if-path-eq0.false, c.requires.levels, c.loop-i.auto.memory) in
    let long : length c.walk.new.path ≡ length path - 1 =
    omega (arith, c.walk.auto.path, length-take (length path - 1) (drop 1 path), length-drop 1 path) in
    let left : length c.walk.new.memory ≡ length memo - 1 =
    omega (arith, c.walk.auto.memory, length-take (length memo - 1) (drop 1 memo), length-drop 1 memo) in
    let past : NoneBut m n.target c.next.new.self.rest a p (length path) =
    none_more m n.target c.loop-i.i-iterator.rest c.next.new.self.rest a p (length path) i c.loop-i.invariant.0 c.in-Some.ensures.steps.1
    (λ js e s. subst (λ s. Never m n.target s (link m.links i).taker (length (take (length path - 1) (drop 1 path)))) c.meet-narrow.ensures.is c.if-walk.ensures.found js (omega (arith, e, length-take (length path - 1) (drop 1 path), length-drop 1 path)) s.3) in (
      λ j js out e s. past j js out (e ∙ put_length path c.walk.new.path some long) s,
      knows_put m n.target memo c.walk.new.memory pos left c.loop-i.invariant.1 c.if-walk.ensures.knows,
      λ j h. c.loop-i.invariant.2 j (and_parts (member c.loop-i.i-iterator.rest j) _ (sym (c.in-Some.ensures.steps.1 j) ∙ h)).0,
    )

-- when no place is left
none_left : goal.returns-clause-found
none_left t c =
    let n = c.args.net.now in
    never_from n.plan.now n.target c.loop-i.i-iterator.rest c.args.search.allowed c.args.search.person (length c.args.path.now)
    (omega (arith, c.if-path-eq0.false)) c.in-None.ensures.steps.0
    (λ j js out e s. c.loop-i.invariant.0 j js out (e ∙ sym c.loop-i.auto.path) s)

pub returns-clause-found : goal.returns-clause-found
returns-clause-found t c = none_left t c

pub returns-clause-knows : goal.returns-clause-knows
returns-clause-knows t c =
    let n = c.args.net.now in
    let pos : 0 < length c.loop-i.memory = omega (arith, c.if-path-eq0.false, c.requires.levels, c.loop-i.auto.memory) in
    let same : length c.args.path.now ≡ length c.loop-i.memory = omega (arith, c.requires.levels, c.loop-i.auto.memory) in
    knows_note n.plan.now n.target c.loop-i.memory _ c.note.new.failures pos c.loop-i.invariant.1
    (λ failed. c.note.ensures n.plan.now n.target (length c.loop-i.memory) failed (subst (Never n.plan.now n.target c.args.search.allowed c.args.search.person) same (none_left t c)))
