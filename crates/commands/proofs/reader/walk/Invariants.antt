use Rattle.std.proofs.Common.{◌≡◌, ◌-◌, ◌≤◌, List, length}
use Rattle.command_words.specs.Fields.{Field}
use Rattle.commands.specs.Drafts.{draft_of}
use Rattle.commands.specs.Reading.{reading, walk}
use Rattle.commands.proofs.reader.walk.Given as goal

abbrev pub invariant-loop-rest : goal.invariant-loop-rest
invariant-loop-rest l =
    (before : List Field) × (l.draft ≡ draft_of before)
    × (walk 0 before (length l.bytes - length l.rest) l.rest ≡ reading l.bytes)
    × (length l.rest ≤ length l.bytes)

abbrev pub decreases-loop-rest : goal.decreases-loop-rest
decreases-loop-rest l = length l.rest
