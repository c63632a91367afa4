use Rattle.std.proofs.Common.{◌≡◌, ℕ, ◌++◌, string_bytes, refl, ap, ◌∙◌}
use Rattle.conditions.specs.declared.truth.Truth.{Truth}
use Rattle.timetables.specs.Timetables.{piece_of, truths}
use Rattle.timetables.proofs.Texts.{course_none, course_more, before_more}
use Rattle.timetables.proofs.add_course.Goals as goal

pub loop-minute-init : goal.loop-minute-init
loop-minute-init g c = (refl, course_none (truths (g.L.Language.says c.args.language.now) c.args.n) (string_bytes c.args.text.now))

pub loop-minute-preserved : goal.loop-minute-preserved
loop-minute-preserved g c =
    let says = g.L.Language.says c.args.language.now in
    let n = c.args.n in
    let m = c.loop-minute.minute in
    let f : ℕ → Truth = truths says n in
    let said : c.truth-truth.result ≡ f m = c.truth-truth.ensures ∙ ap (says n) c.at_minute.ensures in
    let more = c.in_ok-add_piece.ensures ∙ (λ i. string_bytes c.loop-minute.text ++ piece_of (c.loop-minute.invariant.0 i) m (said i)) in
    (before_more f m c.truth-truth.result said, more ∙ course_more f (string_bytes c.args.text.now) (string_bytes c.loop-minute.text) _ m c.loop-minute.invariant.1 refl)
