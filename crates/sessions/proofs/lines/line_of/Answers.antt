use Rattle.std.proofs.Common.{◌≡◌, ℕ, List, [], ◌∷◌, ◌++◌, IfOk, string_bytes, codes, decimal, sym, ap, ◌∙◌, subst}
use Rattle.command_words.specs.Format.{verb_letter}
use Rattle.sessions.specs.Lines.{line}
use Rattle.sessions.proofs.Told.{told_so}
use Rattle.sessions.proofs.lines.line_of.Goals as goal

pub returns-in-Err : goal.returns-in-Err
returns-in-Err c =
    let v = verb_letter c.args.verb ∷ [] in
    subst (λ (t : List ℕ). IfOk c.format-in-Err.result (λ s. string_bytes s ≡ t))
    (ap (λ (l : List ℕ). decimal c.args.count ++ (codes " " ++ (v ++ l))) (told_so c.in-Err.fault) ∙ ap (line c.args.count v) (sym c.in-Err.is))
    c.format-in-Err.ensures.ok
