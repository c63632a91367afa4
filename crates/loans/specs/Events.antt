-- What becomes of a key: each event judged with the state of its hook.
use Rattle.std.specs.Prelude.{◌≡◌, ℕ, ◌<◌, cond, Ok, Err, Result, ◌==◌, nat_lt}
use Rattle.faults.specs.declared.Fault.{Fault}
use Rattle.faults.specs.declared.Refusal.TheVariants.{NoSuchHook, KeyNotIn, KeyNotOut, NotPromised}
use Rattle.faults.specs.Faults.{fault}
use Rattle.loans.specs.declared.state.HookState.{HookState}
use Rattle.loans.specs.declared.state.HookState.TheVariants.{In, Promised, Out}
use Rattle.loans.specs.declared.state.Event.{Event}
use Rattle.loans.specs.declared.state.Event.TheVariants.{Draw, Take, Leave, Return}

-- the state of hook h after an event, or the refusal at h. A key that is in can be drawn, at the hooks that
-- there are (0 to 31); one that is promised can be taken or left by the person it is promised to; one that is
-- out can be returned
abbrev pub judged : ℕ → HookState → Event → Result HookState Fault
judged h In (Draw q) = cond (nat_lt h 32) (Ok (Promised q)) (Err (fault NoSuchHook h))
judged h In (Take q) = Err (fault NotPromised h)
judged h In (Leave q) = Err (fault NotPromised h)
judged h In Return = Err (fault KeyNotOut h)
judged h (Promised p) (Draw q) = Err (fault KeyNotIn h)
judged h (Promised p) (Take q) = cond (p == q) (Ok Out) (Err (fault NotPromised h))
judged h (Promised p) (Leave q) = cond (p == q) (Ok In) (Err (fault NotPromised h))
judged h (Promised p) Return = Err (fault KeyNotOut h)
judged h Out (Draw q) = Err (fault KeyNotIn h)
judged h Out (Take q) = Err (fault NotPromised h)
judged h Out (Leave q) = Err (fault NotPromised h)
judged h Out Return = Ok In

-- when an event is allowed, in one line each: a draw of a key that is in, at the hooks that there are; taking and
-- leaving by the person the key is promised to; a return of a key that is out
abbrev pub Allowed : ℕ → HookState → Event → Type 0
Allowed h s (Draw q) = (s ≡ In) × (h < 32)
Allowed h s (Take q) = s ≡ Promised q
Allowed h s (Leave q) = s ≡ Promised q
Allowed h s Return = s ≡ Out

-- the state that an event leads to
abbrev pub leads_to : Event → HookState
leads_to (Draw q) = Promised q
leads_to (Take q) = Out
leads_to (Leave q) = In
leads_to Return = In
