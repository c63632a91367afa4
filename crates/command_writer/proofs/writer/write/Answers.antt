use Rattle.std.proofs.Common.{◌≡◌, List, ℕ, [], length, take, refl, ap, ◌∙◌, take_all}
use Rattle.std.proofs.lemmas.List.{take_at}
use Rattle.command_words.specs.Format.{fields_of, wire}
use Rattle.command_writer.specs.Pens.{filled}
use Rattle.command_writer.proofs.Puts.{penned_spells, wire_short}
use Rattle.command_writer.proofs.writer.write.Goals as goal

-- what the pen has written is the whole record
whole : (c : goal.After-fill) → c.written-written.result.now ≡ wire c.args.command
whole c =
    c.written-written.ensures.is ∙ c.pen_down-pen.ensures ∙ penned_spells [] (fields_of c.args.command)
    ∙ take_all 64 (wire c.args.command) (wire_short c.args.command)

pub returns-clause-long : goal.returns-clause-long
returns-clause-long c = ap (λ (w : List ℕ). length w) (whole c)

pub returns-clause-bytes : goal.returns-clause-bytes
returns-clause-bytes c = c.fill.ensures ∙ ap filled (whole c)

pub returns-clause-front : goal.returns-clause-front
returns-clause-front c =
    ap (take (length c.written-written.result.now)) c.fill.ensures ∙ take_at c.written-written.result.now _ _ refl ∙ whole c
