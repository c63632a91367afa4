-- A refusal as it is printed is the end of its line.
use Rattle.std.proofs.Common.{◌≡◌, ◌++◌, Err, codes, decimal, ap, append_assoc}
use Rattle.faults.specs.declared.Fault.{Fault}
use Rattle.faults.specs.Faults.{number_of, printed}
use Rattle.sessions.specs.Lines.{answer_text}

pub told_so : (f : Fault) → codes " " ++ (printed f ++ codes "\n") ≡ answer_text (Err f)
told_so f = ap (λ l. codes " no " ++ l) (append_assoc (decimal (number_of f.refusal)) (codes " " ++ decimal f.place) (codes "\n"))
