use Rattle.std.proofs.Common.{◌≡◌, ℕ, List, IfOk, string_bytes, subst}
use Rattle.frames.specs.Views.{parts_of}
use Rattle.sessions.proofs.Starts.{run_text}
use Rattle.sessions.proofs.print.run.Goals as goal

pub returns-in-Ok : goal.returns-in-Ok
returns-in-Ok g c =
    subst (λ (t : List ℕ). IfOk c.answer_all.result (λ s. string_bytes s ≡ t))
    (run_text g.L.Language.size g.L.Language.says c.args.cabinet.now c.prepare.new.cabinet (parts_of c.args.parts) c.args.end tt c.in-Ok.ensures)
    c.answer_all.ensures
