use Rattle.std.proofs.Common.{rules}
use Rattle.std.proofs.lemmas.List.{take_rest}
use Rattle.frames.proofs.Books.{passed, over, none_at_end, other_there}
use Rattle.frames.proofs.layout.book_len.Goals.{in_default, in_default-2}
use Rattle.frames.proofs.layout.book_len.Goals as goal

pub loop-rest-preserved : goal.loop-rest-preserved
loop-rest-preserved c =
    rw take_rest (passed c.args.bytes.now c.loop-rest.rest.now c.loop-rest.invariant.0 c.condition_len.result c.condition_len.ensures.is c.condition_len.ensures.within c.loop-rest.invariant.1)

pub returns-clause-is : goal.returns-clause-is
returns-clause-is c =
    over c.args.bytes.now c.loop-rest.rest.now c.loop-rest.invariant.0
    (elim c.if-rest-lt1.branch [ in_default w ↦ none_at_end c.loop-rest.rest.now w.in_default.len_below | in_default-2 w ↦ other_there c.loop-rest.rest.now (search rules) ])
