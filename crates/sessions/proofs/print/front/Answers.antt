use Rattle.std.proofs.Common.{◌≡◌, ℕ, zero, suc, min, List, [], ◌∷◌, length, take, sym, ap, ◌∙◌}
use native.Mathlib.Nat.{min-zero, suc-min-suc}
use Rattle.std.proofs.Math.Seq.{take-nil}
use Rattle.sessions.proofs.print.front.Goals as goal

-- no more is taken than there is
take_min : (n : ℕ) (xs : List ℕ) → take (min (length xs) n) xs ≡ take n xs
take_min n [] = take-nil (min 0 n) ∙ sym (take-nil n)
take_min zero (x ∷ xs) = ap (λ m. take m (x ∷ xs)) (min-zero (suc (length xs)))
take_min (suc n) (x ∷ xs) = ap (λ m. take m (x ∷ xs)) (suc-min-suc (length xs) n) ∙ ap (λ (l : List ℕ). x ∷ l) (take_min n xs)

pub returns : goal.returns
returns c = ap (λ n. take n c.args.file.now) c.min.ensures ∙ take_min 65535 c.args.file.now
