-- The reading of a record as a function of its bytes. It is the only answer that the law of reading allows.
use Rattle.std.specs.Prelude.{ℕ, zero, suc, ◌+◌, Bool, cond, ◌&&◌, List, [], ◌∷◌, length, is_some, Some, None, Err, Option, Result}
use Rattle.std.specs.Option.{ok_or, option_and_then as then}
use Rattle.faults.specs.declared.Fault.{Fault}
use Rattle.command_words.specs.declared.Command.{Command}
use Rattle.command_words.specs.Fields.{Field}
use Rattle.commands.specs.Steps.{cut, worth}
use Rattle.commands.specs.Law.{ill}
use Rattle.commands.specs.Drafts.{may_come, draft_of, closed}

-- a field may stand behind those before it
abbrev pub keeps : List Field → Field → Bool
keeps before f = may_come (draft_of before) f.0 && is_some (worth f.0 f.1)

-- the next field, if it is whole and may stand there
abbrev pub kept_by : List Field → Field × List ℕ → Option Field
kept_by before f = cond (keeps before f.0) (Some f.0) None

abbrev pub next : List Field → List ℕ → Option Field
next before bs = then (kept_by before) (cut bs)

-- the command that the fields make, or a refusal at an offset
abbrev pub ended : List Field → ℕ → Result Command Fault
ended fs o = ok_or (closed (draft_of fs)) (ill o)

abbrev pub after : {Y : Type 0} → Option Field → Y → (Field → Y) → Y
after None y f = y
after (Some x) y f = f x

-- the bytes from an offset on, behind the fields `before`; of a field that was taken, `skip` bytes are passed over yet
unfoldable pub walk : ℕ → List Field → ℕ → List ℕ → Result Command Fault
walk skip before o [] = ended before o
walk zero before o (b ∷ bs) = after (next before (b ∷ bs)) (Err (ill o)) (λ (f : Field). walk (suc (suc (length f.1))) (f ∷ before) (o + 1) bs)
walk (suc n) before o (b ∷ bs) = walk n before (o + 1) bs

abbrev pub reading : List ℕ → Result Command Fault
reading bs = walk 0 [] 0 bs
