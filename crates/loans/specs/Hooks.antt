-- What the loans mean: where the key of every hook is, and what an event leaves of that.
use Rattle.std.specs.Prelude.{◌≡◌, ℕ, cond, List, map, take, Some, None, Ok, Err, Option, Result, MatchResult, ◌==◌, ◌≢◌, slice_set}
use Rattle.std.specs.List.{range_with_len}
use Rattle.faults.specs.declared.Fault.{Fault}
use Rattle.numbered.specs.Rows.{row_of}
use Rattle.loans.specs.declared.state.HookState.{HookState}
use Rattle.loans.specs.declared.state.HookState.TheVariants.{In, Promised, Out}
use Rattle.loans.specs.declared.state.Event.{Event}
use Rattle.loans.specs.declared.slip.Slip.{Slip}
use Rattle.loans.specs.declared.slip.RefusedSlip.{RefusedSlip}
use Rattle.loans.specs.declared.table.Lent.{Lent}
use Rattle.loans.specs.declared.table.Lent.TheVariants as lent
use Rattle.loans.specs.declared.table.Loan.{Loan}
use Rattle.loans.specs.declared.table.Loans.{Loans}
use Rattle.loans.specs.Events.{Allowed, leads_to}

-- the hook of a loan, by which it is found
abbrev pub hook_of : Loan → ℕ
hook_of l = l.hook

-- the loans in use
abbrev pub loans_in : Loans → List Loan
loans_in ls = take ls.count ls.rows

-- where a lent key is
abbrev pub where_lent : Lent → HookState
where_lent (lent.Promised p) = Promised p
where_lent lent.Out = Out

-- a hook without a loan is in
abbrev pub state_by : Option Loan → HookState
state_by None = In
state_by (Some l) = where_lent l.lent

-- where the key of hook h is
abbrev pub state_of : Loans → ℕ → HookState
state_of ls h = state_by (row_of hook_of h (loans_in ls))

-- the 32 hooks, by number
abbrev pub hooks : Loans → List HookState
hooks ls = map (state_of ls) (range_with_len 0 32)

-- hook h has come to state s, and every other hook is as it was
pub record Moved (before : Loans) (h : ℕ) (s : HookState) (after : Loans) : Type 0 where
  pub here : state_of after h ≡ s
  pub others : (k : ℕ) → (h ≢ k) → state_of after k ≡ state_of before k
  pub list : hooks after ≡ slice_set (hooks before) h s

-- what a judgement leaves: accepted, hook h is in the state that it gives; refused, nothing is altered
abbrev pub Leaves : Loans → ℕ → Result HookState Fault → Loans → Type 0
Leaves before h (Ok s) after = Moved before h s after
Leaves before h (Err e) after = after ≡ before

-- the answer to an event
abbrev pub answered : Result HookState Fault → Result (Unit {0}) Fault
answered (Ok s) = Ok tt
answered (Err e) = Err e

-- the answer to a draw: a slip of the hook, the person and the length of the chain
abbrev pub drawn : ℕ → ℕ → ℕ → Result HookState Fault → Result Slip Fault
drawn h p n (Ok s) = Ok (record { hook = h; person = p; length = n })
drawn h p n (Err e) = Err e

-- the loans promise the slip's key to the slip's person
abbrev pub Promises : Loans → Slip → Type 0
Promises ls slip = state_of ls slip.hook ≡ Promised slip.person

-- the answer to taking or leaving: the slip is spent, or comes back whole
abbrev pub spent_by : Slip → Result (Unit {0}) Fault → Result (Unit {0}) RefusedSlip
spent_by slip (Ok done) = Ok done
spent_by slip (Err e) = Err (record { fault = e; slip = slip })

abbrev pub spent : Slip → Result HookState Fault → Result (Unit {0}) RefusedSlip
spent slip r = spent_by slip (answered r)

-- what an answer tells, in both directions. Of any event: accepted, it was allowed and led to its state; refused,
-- nothing is altered
abbrev pub EventLaw : Loans → ℕ → Event → Loans → Result (Unit {0}) Fault → Type 0
EventLaw before h event after r = MatchResult r (λ _. Allowed h (state_of before h) event × Moved before h (leads_to event) after) (λ _. after ≡ before)

-- of a draw: the key was in, and is now promised as the slip says, to the person who drew
pub record Drew (before : Loans) (h p n : ℕ) (after : Loans) (slip : Slip) : Type 0 where
  pub was_in : state_of before h ≡ In
  pub moved : Moved before h (Promised p) after
  pub promised : Promises after slip
  pub hook : slip.hook ≡ h
  pub person : slip.person ≡ p
  pub chain : slip.length ≡ n

abbrev pub DrawLaw : Loans → ℕ → ℕ → ℕ → Loans → Result Slip Fault → Type 0
DrawLaw before h p n after r = MatchResult r (λ slip. Drew before h p n after slip) (λ _. after ≡ before)

-- of a slip spent: its promise stood, and the key is now in state s; refused, the slip comes back whole
abbrev pub SpendLaw : Loans → Slip → HookState → Loans → Result (Unit {0}) RefusedSlip → Type 0
SpendLaw before slip s after r = MatchResult r (λ _. Promises before slip × Moved before slip.hook s after) (λ e. (e.slip ≡ slip) × (after ≡ before))

-- of a return: the key was out, and is now in
abbrev pub ReturnLaw : Loans → ℕ → Loans → Result (Unit {0}) Fault → Type 0
ReturnLaw before h after r = MatchResult r (λ _. (state_of before h ≡ Out) × Moved before h In after) (λ _. after ≡ before)

-- a loan whose key went out
abbrev pub went_out : Loan → Loan
went_out l = record { hook = l.hook; lent = lent.Out }

-- a key that is promised goes out; no other state is altered
abbrev pub gone_out : HookState → HookState
gone_out In = In
gone_out (Promised p) = Out
gone_out Out = Out

-- every hook but h is as it was, and h is in state s
abbrev pub Only : Loans → ℕ → HookState → Loans → Type 0
Only before h s after = (k : ℕ) → state_of after k ≡ cond (h == k) s (state_of before k)
