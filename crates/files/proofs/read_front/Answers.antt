use Rattle.std.proofs.Common.{◌≡◌, ℕ, ◌+◌, ◌-◌, ◌≤◌, arith}
use Rattle.files.proofs.read_front.Goals as goal

-- what is left where all behind a limit was cut off is at most that limit
cut_at : (left long limit : ℕ) → left + (long - limit) ≡ long → left ≤ limit
cut_at left long limit e = omega arith

pub returns : goal.returns
returns c = cut_at _ _ 65535 c.truncate.ensures.len
