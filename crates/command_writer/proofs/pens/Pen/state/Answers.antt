use Rattle.std.proofs.Common.{◌≡◌, ◌≤◌, List, ℕ, [], ◌++◌, length, ap, ◌∙◌, arith, take_all}
use Rattle.states.specs.declared.report.Report.{Report}
use Rattle.command_words.specs.Fields.{spell}
use Rattle.command_words.specs.Format.{entry_of, entries}
use Rattle.command_writer.specs.Pens.{puts}
use Rattle.command_writer.proofs.Puts.{on, entries_short}
use Rattle.command_writer.proofs.pens.Pen.state.Goals as goal

pub returns : goal.returns
returns c =
    let r : Report = c.args.report in
    let short : length (entries c.args.report) ≤ 64 = omega (arith, entries_short r) in
    let told : c.entry-6.new.self.bytes.items ≡ puts [] (entries c.args.report) =
    on [] (entry_of 2 r.time) (entry_of 3 r.day ++ (entry_of 4 r.groups ++ (entry_of 5 r.path ++ (entry_of 6 r.level ++ entry_of 7 r.status))))
    (c.entry.ensures ∙ ap (λ (p : List ℕ). puts p (entry_of 2 r.time)) c.new-told.ensures)
    (on c.entry.new.self.bytes.items (entry_of 3 r.day) (entry_of 4 r.groups ++ (entry_of 5 r.path ++ (entry_of 6 r.level ++ entry_of 7 r.status))) c.entry-2.ensures
    (on c.entry-2.new.self.bytes.items (entry_of 4 r.groups) (entry_of 5 r.path ++ (entry_of 6 r.level ++ entry_of 7 r.status)) c.entry-3.ensures
    (on c.entry-3.new.self.bytes.items (entry_of 5 r.path) (entry_of 6 r.level ++ entry_of 7 r.status) c.entry-4.ensures
    (on c.entry-4.new.self.bytes.items (entry_of 6 r.level) (entry_of 7 r.status) c.entry-5.ensures c.entry-6.ensures)))) in
    c.field.ensures
    ∙ ap (λ (v : List ℕ). puts c.args.self.now.bytes.items (spell (8, v))) (c.written.ensures.is ∙ told ∙ take_all 64 (entries c.args.report) short)
