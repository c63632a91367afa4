-- What a command does to a cabinet, by the plain record of calls.
use Rattle.std.specs.Prelude.{ℕ}
use Rattle.states.specs.declared.state.State.{State}
use Rattle.conditions.specs.declared.truth.Truth.{Truth}
use Rattle.command_words.specs.declared.Outcome.{Outcome}
use Rattle.command_words.specs.declared.Outcome.TheVariants.{Taken, Left}
use Rattle.command_words.specs.declared.Command.{Command}
use Rattle.command_words.specs.declared.Command.TheVariants as commands
use Rattle.plain.specs.Record.{World, Call, Issue, Amend, Withdraw, Draw, Take, Leave, Return, Answer, Refused, Number, Orphaned, Slip, Done, step}

-- the call that a command makes
abbrev pub call_of : Command → Call
call_of (commands.Issue caller hook grantee terms) = Issue caller hook grantee terms
call_of (commands.Amend caller number terms) = Amend caller number terms
call_of (commands.Withdraw caller number) = Withdraw caller number
call_of (commands.Draw caller hook report outcome) = Draw caller hook report
call_of (commands.Return caller hook) = Return caller hook

-- the call that spends a slip, by what became of the key
abbrev pub spends : Outcome → ℕ → ℕ → Call
spends Taken hook person = Take hook person
spends Left hook person = Leave hook person

module _ (size : ℕ) (means : ℕ → State → Truth) (put see : ℕ → State → State) where
  -- what a draw leaves: if it is accepted, it is followed at once by what became of the key
  abbrev pub followed : Outcome → World → Answer → World
  followed outcome w (Refused e) = w
  followed outcome w (Number n) = w
  followed outcome w (Orphaned n) = w
  followed outcome w (Slip hook person numbers) = (step size means put see w (spends outcome hook person)).0
  followed outcome w Done = w

  -- what a command leaves, by what its call left and answered
  abbrev pub left : Command → World × Answer → World
  left (commands.Issue caller hook grantee terms) a = a.0
  left (commands.Amend caller number terms) a = a.0
  left (commands.Withdraw caller number) a = a.0
  left (commands.Draw caller hook report outcome) a = followed outcome a.0 a.1
  left (commands.Return caller hook) a = a.0

  -- what a command does, and the answer to it
  abbrev pub performed : World → Command → World × Answer
  performed w c = let a = step size means put see w (call_of c) in (left c a, a.1)
