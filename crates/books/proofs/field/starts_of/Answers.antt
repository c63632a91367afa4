use Rattle.std.proofs.Common.{◌≡◌, ◌+◌, length, Err, sym, ap, ◌∙◌, subst, arith, refl, rules}
use Rattle.std.proofs.lemmas.Bool.{and_parts, ltb-true}
use Rattle.arrayvec.specs.ArrayVec.{array_vec_len}
use Rattle.books.specs.Books.{Placed}
use Rattle.books.proofs.Fields.{Walk, walk_none, walk_more, walk_bad, walk_all, placed_more, next_ok, next_err, good_room}
use Rattle.books.proofs.field.starts_of.Goals as goal

pub loop-at-init : goal.loop-at-init
loop-at-init c =
    let none : 0 ≡ array_vec_len c.new-starts.result = sym (ap length c.new-starts.ensures) in
    record { walk = subst (Walk c.args.bytes.now 0) none (walk_none c.args.bytes.now); placed = λ j h. absurd (omega (arith, none)) }

pub returns-in_err-size-clause-is : goal.returns-in_err-size-clause-is
returns-in_err-size-clause-is c =
    let walk : Walk c.args.bytes.now c.loop-at.at c.len.result = subst (Walk c.args.bytes.now c.loop-at.at) (sym c.len.ensures.value) c.loop-at.invariant.walk in
    let bad = next_err _ _ _ _ c.in_err-size.ensures in
    let is = walk_bad walk c.loop-at-test.true bad.0 ∙ sym (ap (λ e. Err e) bad.1) in
    search (rules, is)

pub loop-at-preserved : goal.loop-at-preserved
loop-at-preserved c =
    let bs = c.args.bytes.now in
    let at = c.loop-at.at in
    let walk : Walk bs at c.len.result = subst (Walk bs at) (sym c.len.ensures.value) c.loop-at.invariant.walk in
    let told = next_ok _ _ _ _ c.in_ok-size.ensures in
    let both = and_parts _ _ told.0 in
    let next = walk_more walk c.loop-at-test.true (ltb-true _ _ both.0) both.1 (good_room bs at both.1) in
    let long : c.len.result + 1 ≡ array_vec_len c.push.new.self = ap (λ k. k + 1) c.len.ensures.value ∙ sym c.push.ensures.len in
    let placed = placed_more bs c.loop-at.starts.items (array_vec_len c.loop-at.starts) at refl c.loop-at.invariant.walk.here c.loop-at.invariant.placed in
    record {
      walk = subst (Walk bs (at + (3 + c.in_ok-size.size))) long (subst (λ n. Walk bs (at + (3 + n)) (c.len.result + 1)) (sym told.1) next);
      placed = subst (λ n. Placed bs n c.push.new.self.items) (sym c.push.ensures.len) (subst (Placed bs (array_vec_len c.loop-at.starts + 1)) (sym c.push.ensures.items) placed);
    }

pub returns : goal.returns
returns c = record { is = walk_all c.loop-at.invariant.walk c.loop-at-test.false; placed = c.loop-at.invariant.placed }
