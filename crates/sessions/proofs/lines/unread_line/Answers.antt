use Rattle.std.proofs.Common.{◌≡◌, ℕ, List, ◌++◌, IfOk, string_bytes, codes, decimal, ap, subst}
use Rattle.sessions.proofs.Told.{told_so}
use Rattle.sessions.proofs.lines.unread_line.Goals as goal

pub returns : goal.returns
returns c =
    subst (λ (t : List ℕ). IfOk c.format.result (λ s. string_bytes s ≡ t))
    (ap (λ (l : List ℕ). decimal c.args.count ++ (codes " " ++ (codes "?" ++ l))) (told_so c.args.fault))
    c.format.ensures.ok
