use Rattle.std.proofs.Common.{Err, sym, ap, ◌∙◌}
use Rattle.plain.proofs.Fitted.{wrong_here, wrong_later, none_wrong}
use Rattle.plain.proofs.check_owners.Goals as goal

pub returns-then-is_no_owner : goal.returns-then-is_no_owner
returns-then-is_no_owner c =
    ap (λ e. Err e) c.at.ensures ∙ sym (wrong_here c.args.owners.now c.loop-i.i 0 c.loop-i-test.true (sym c.is_no_owner.ensures ∙ c.if-is_no_owner.true)) ∙ c.loop-i.invariant

pub loop-i-preserved : goal.loop-i-preserved
loop-i-preserved c =
    sym (wrong_later c.args.owners.now c.loop-i.i 0 c.loop-i-test.true (sym c.is_no_owner.ensures ∙ c.if-is_no_owner.false)) ∙ c.loop-i.invariant

pub returns : goal.returns
returns c = sym (none_wrong c.args.owners.now c.loop-i.i c.loop-i-test.false) ∙ c.loop-i.invariant
