-- The plain record: what a list of calls makes of a cabinet, told from the calls' arguments alone, and the hooks beside it.
use Rattle.std.specs.Prelude.{◌≡◌, ℕ, suc, ◌+◌, ◌%◌, Bool, true, false, cond, not, ◌&&◌, ◌||◌, List, [], ◌∷◌, ◌++◌, map, reverse, length, set, replicate, is_some, Some, None, Ok, Err, Option, Result, ◌==◌, nat_le, nat_lt, slice_index, slice_index_or, slice_set}
use Rattle.std.specs.Option.{unwrap_or}
use Rattle.faults.specs.declared.Fault.{Fault}
use Rattle.faults.specs.declared.Refusal.{Refusal}
use Rattle.faults.specs.declared.Refusal.TheVariants.{NotAPerson, NoSuchHook, NoSuchCondition, GranteeIsCallerOrOwner, NoSuchGrant, NotTheGrantor, NumbersSpent, RecordFull, NoChain, AlreadyFitted, FittingIllFormed}
use Rattle.faults.specs.Faults.{fault}
use Rattle.states.specs.declared.state.State.{State}
use Rattle.states.specs.declared.report.Report.{Report}
use Rattle.states.specs.Reports.{state_of}
use Rattle.states.specs.Ranges.{range_check}
use Rattle.grants.specs.declared.Grant.{Grant}
use Rattle.grants.specs.declared.Mode.{Mode}
use Rattle.grants.specs.declared.Mode.TheVariants.{Expiring, Resting}
use Rattle.grants.specs.declared.terms.Terms.{Terms}
use Rattle.grants.specs.Blank.{blank}
use Rattle.conditions.specs.declared.truth.Truth.{Truth}
use Rattle.numbered.specs.Rows.{row_of, without}
use Rattle.loans.specs.declared.state.HookState.{HookState}
use Rattle.loans.specs.declared.state.HookState.TheVariants as key
use Rattle.loans.specs.declared.state.Event.TheVariants as event
use Rattle.loans.specs.Events.{judged}
use Rattle.chains.specs.Lists.{keep_if}
use Rattle.chains.specs.Search.{is_person, stands, least_chain}

-- the eight calls, each by its caller; take and leave are by the slip's person, of whom they name hook and person
pub data Call : Type 0 where
  Fit : (owners : List ℕ) (kept : ℕ) → Call
  Issue : (caller hook grantee : ℕ) (terms : Terms) → Call
  Amend : (caller number : ℕ) (terms : Terms) → Call
  Withdraw : (caller number : ℕ) → Call
  Draw : (caller hook : ℕ) (told : Report) → Call
  Take : (hook person : ℕ) → Call
  Leave : (hook person : ℕ) → Call
  Return : (caller hook : ℕ) → Call

-- the answers: refused; the new grant's number; how many others stood before and do not after; a slip of hook and person,
-- with the numbers of the chain; done
pub data Answer : Type 0 where
  Refused : Fault → Answer
  Number : ℕ → Answer
  Orphaned : ℕ → Answer
  Slip : (hook person : ℕ) (numbers : List ℕ) → Answer
  Done : Answer

-- a cabinet as calls leave it: whether it is fitted, the owners of its hooks, the kept set, the last number given, the
-- grants on record, and the state of each hook
pub record World : Type 0 where
  pub fitted : Bool
  pub owners : List ℕ
  pub kept : ℕ
  pub last : ℕ
  pub grants : List Grant
  pub hooks : List HookState

-- a new cabinet: unfitted and empty, every key in
abbrev pub new : World
new = record { fitted = false; owners = replicate 32 0; kept = 0; last = 0; grants = []; hooks = replicate 32 key.In }

-- who makes a call; fitting is anybody's
abbrev pub By : ℕ → Call → Type 0
By p (Fit owners kept) = Unit {0}
By p (Issue caller hook grantee terms) = caller ≡ p
By p (Amend caller number terms) = caller ≡ p
By p (Withdraw caller number) = caller ≡ p
By p (Draw caller hook told) = caller ≡ p
By p (Take hook person) = person ≡ p
By p (Leave hook person) = person ≡ p
By p (Return caller hook) = caller ≡ p

-- ---- checks

-- a check finds a fault or none
abbrev pub check : Bool → Refusal → ℕ → Option Fault
check b refusal place = cond b (Some (fault refusal place)) None

-- what another judgement finds
abbrev pub found : {A : Type 0} → Result A Fault → Option Fault
found (Ok a) = None
found (Err e) = Some e

-- the first fault that the checks find, in their order
abbrev pub first_fault : List (Option Fault) → Option Fault
first_fault [] = None
first_fault (None ∷ cs) = first_fault cs
first_fault (Some e ∷ cs) = Some e

-- the first check that finds a fault refuses, and nothing is altered
abbrev pub judged_by : World → Option Fault → World × Answer → World × Answer
judged_by w None did = did
judged_by w (Some e) did = (w, Refused e)

-- the same as a function answers it that only checks
abbrev pub refused_by : Option Fault → Result (Unit {0}) Fault
refused_by None = Ok tt
refused_by (Some e) = Err e

abbrev pub passed : List (Option Fault) → Result (Unit {0}) Fault
passed cs = refused_by (first_fault cs)

-- the owner of a hook (0 is none), and the state of its key
abbrev pub owner : World → ℕ → ℕ
owner w h = slice_index w.owners h

abbrev pub hook_at : World → ℕ → HookState
hook_at w h = slice_index_or w.hooks h key.In

-- a person is 1 to 200 (the place is the tag of its field), a hook is 0 to 31 and has an owner
abbrev pub person : ℕ → ℕ → Option Fault
person p tag = check (not (is_person p)) NotAPerson tag

abbrev pub real_hook : ℕ → ℕ → Option Fault
real_hook h o = check (nat_lt 31 h || o == 0) NoSuchHook h

-- a condition's number is below the language's count (the place is the tag of its field)
abbrev pub condition : ℕ → ℕ → ℕ → Option Fault
condition size x tag = check (nat_le size x) NoSuchCondition tag

-- the receiver is neither the caller nor the hook's owner
abbrev pub receiver : ℕ → ℕ → ℕ → Option Fault
receiver grantee caller o = check (grantee == caller || grantee == o) GranteeIsCallerOrOwner 4

-- the grant numbered n is there, and the caller's own
abbrev pub own_grant : Bool → ℕ → ℕ → ℕ → List (Option Fault)
own_grant there grantor caller n = check (not there) NoSuchGrant n ∷ check (not (grantor == caller)) NotTheGrantor n ∷ []

-- fewer than 1,000,000 numbers are given, fewer than 96 grants on record
abbrev pub numbers_left : ℕ → Option Fault
numbers_left last = check (nat_le 1000000 last) NumbersSpent 0

abbrev pub place_free : ℕ → Option Fault
place_free places = check (nat_le 96 places) RecordFull 0

-- some chain justifies the call
abbrev pub chainless : Bool → Option Fault
chainless justified = check (not justified) NoChain 0

-- the owners of a fitting: the first above 200 is refused with its index
abbrev pub owners_from : ℕ → List ℕ → List (Option Fault)
owners_from i [] = []
owners_from i (o ∷ os) = check (nat_lt 200 o) FittingIllFormed i ∷ owners_from (suc i) os

-- the checks of each call, in the order of their numbers and within one in the order of tags or variables
abbrev pub fit_checks : Bool → List ℕ → ℕ → List (Option Fault)
fit_checks fitted owners kept =
    check fitted AlreadyFitted 0
    ∷ check (not (length owners == 32)) FittingIllFormed 32
    ∷ (owners_from 0 owners ++ (check (not (kept % 4 == 0)) FittingIllFormed 33 ∷ []))

-- of an issue: those before the question for a chain, and all
abbrev pub issue_before : (size caller h o grantee x y : ℕ) (s : State) (last places : ℕ) → List (Option Fault)
issue_before size caller h o grantee x y s last places =
    person caller 2 ∷ person grantee 4 ∷ real_hook h o ∷ found (range_check s)
    ∷ condition size x 5 ∷ condition size y 6
    ∷ receiver grantee caller o
    ∷ numbers_left last ∷ place_free places ∷ []

abbrev pub issue_checks : (size caller h o grantee x y : ℕ) (s : State) (last places : ℕ) (justified : Bool) → List (Option Fault)
issue_checks size caller h o grantee x y s last places justified = issue_before size caller h o grantee x y s last places ++ (chainless justified ∷ [])

-- of an amendment
abbrev pub amend_before : (size caller n x y : ℕ) (s : State) (last : ℕ) (there : Bool) (grantor : ℕ) → List (Option Fault)
amend_before size caller n x y s last there grantor =
    person caller 2 ∷ found (range_check s)
    ∷ condition size x 5 ∷ condition size y 6
    ∷ (own_grant there grantor caller n ++ (numbers_left last ∷ []))

abbrev pub amend_checks : (size caller n x y : ℕ) (s : State) (last : ℕ) (there : Bool) (grantor : ℕ) (justified : Bool) → List (Option Fault)
amend_checks size caller n x y s last there grantor justified = amend_before size caller n x y s last there grantor ++ (chainless justified ∷ [])

abbrev pub withdraw_checks : (caller n : ℕ) (there : Bool) (grantor : ℕ) → List (Option Fault)
withdraw_checks caller n there grantor = person caller 2 ∷ own_grant there grantor caller n

-- of a draw; where its key is comes last
abbrev pub draw_before : (caller h o : ℕ) (s : State) → List (Option Fault)
draw_before caller h o s = person caller 2 ∷ real_hook h o ∷ found (range_check s) ∷ []

abbrev pub draw_checks : (caller h o : ℕ) (s : State) (justified : Bool) → HookState → List (Option Fault)
draw_checks caller h o s justified k = draw_before caller h o s ++ (chainless justified ∷ found (judged h k (event.Draw caller)) ∷ [])

abbrev pub return_checks : (caller h o : ℕ) → HookState → List (Option Fault)
return_checks caller h o k = person caller 2 ∷ real_hook h o ∷ found (judged h k event.Return) ∷ []

-- ---- the record

abbrev pub number_of : Grant → ℕ
number_of g = g.number

-- the grant numbered n, and the record without it
abbrev pub lookup : List Grant → ℕ → Option Grant
lookup r n = row_of number_of n r

abbrev pub grant_at : List Grant → ℕ → Grant
grant_at r n = unwrap_or (lookup r n) blank

-- a grant of mode R rests where it does not stand, one of mode E leaves
abbrev pub is_resting : Mode → Bool
is_resting Expiring = false
is_resting Resting = true

-- how many pass the test
abbrev pub count : {X : Type 0} → (X → Bool) → List X → ℕ
count t [] = 0
count t (x ∷ xs) = let n = count t xs in cond (t x) (suc n) n

-- the cabinet with one hook's state changed, and with another last number and other grants
abbrev pub with_hook : World → ℕ → HookState → World
with_hook w h k = record { fitted = w.fitted; owners = w.owners; kept = w.kept; last = w.last; grants = w.grants; hooks = slice_set w.hooks h k }

abbrev pub with_grants : World → ℕ → List Grant → World
with_grants w n r = record { fitted = w.fitted; owners = w.owners; kept = w.kept; last = n; grants = r; hooks = w.hooks }

-- size and means are a language's count and meaning. put tells what of a whole state is written down, and see by what part
-- of a written state a grant is judged, both by the kept set. In the plain record the whole state is written down and its
-- kept part judged; a cabinet writes the kept part down and judges by all that it has.
module _ (size : ℕ) (means : ℕ → State → Truth) (put see : ℕ → State → State) where
  -- the state by which a grant on record is judged
  abbrev pub seen : World → Grant → State
  seen w g = see w.kept g.state

  -- whether a grant stands on the record r
  abbrev pub stands_on : World → List Grant → Grant → Bool
  stands_on w r g = stands means (seen w) r (owner w) g

  -- every E grant that does not stand leaves
  abbrev pub swept : World → List Grant → List Grant
  swept w r = keep_if (λ g. is_resting g.mode || stands_on w r g) r

  -- the grant that an issue makes, and an amendment, which keeps hook and grantee of the old one
  abbrev pub issued : World → ℕ → ℕ → ℕ → Terms → Grant
  issued w caller h grantee terms =
      record { number = w.last + 1; hook = h; grantor = caller; grantee = grantee; execute = terms.execute; onward = terms.onward; mode = terms.mode; state = put w.kept (state_of caller (Some grantee) terms.report) }

  abbrev pub amended : World → ℕ → ℕ → Terms → Grant
  amended w caller n terms = issued w caller (grant_at w.grants n).hook (grant_at w.grants n).grantee terms

  -- the chain that a draw names
  abbrev pub drawn : World → ℕ → ℕ → Report → Option (List Grant)
  drawn w caller h told = least_chain means (seen w) w.grants h (owner w h) caller (state_of caller None told)

  -- the record that an accepted withdraw leaves
  abbrev pub left : World → ℕ → List Grant
  left w n = swept w (without number_of n w.grants)

  -- the checks of each call; the six reported values are checked, since caller and receiver are judged as persons
  abbrev pub checks : World → Call → List (Option Fault)
  checks w (Fit owners kept) = fit_checks w.fitted owners kept
  checks w (Issue caller h grantee terms) =
      issue_checks size caller h (owner w h) grantee terms.execute terms.onward (state_of caller None terms.report) w.last (length w.grants) (stands_on w w.grants (issued w caller h grantee terms))
  checks w (Amend caller n terms) =
      amend_checks size caller n terms.execute terms.onward (state_of caller None terms.report) w.last (is_some (lookup w.grants n)) (grant_at w.grants n).grantor (stands_on w w.grants (amended w caller n terms))
  checks w (Withdraw caller n) = withdraw_checks caller n (is_some (lookup w.grants n)) (grant_at w.grants n).grantor
  checks w (Draw caller h told) = draw_checks caller h (owner w h) (state_of caller None told) (is_some (drawn w caller h told)) (hook_at w h)
  checks w (Take h p) = found (judged h (hook_at w h) (event.Take p)) ∷ []
  checks w (Leave h p) = found (judged h (hook_at w h) (event.Leave p)) ∷ []
  checks w (Return caller h) = return_checks caller h (owner w h) (hook_at w h)

  -- what each call does and answers, once it has passed its checks
  abbrev pub done : World → Call → World × Answer
  done w (Fit owners kept) = (record { fitted = true; owners = owners; kept = kept; last = w.last; grants = w.grants; hooks = w.hooks }, Done)
  done w (Issue caller h grantee terms) =
      (with_grants w (w.last + 1) (w.grants ++ (issued w caller h grantee terms ∷ [])), Number (w.last + 1))
  done w (Amend caller n terms) =
      (with_grants w (w.last + 1) (swept w (without number_of n w.grants ++ (amended w caller n terms ∷ []))), Number (w.last + 1))
  done w (Withdraw caller n) =
      (with_grants w w.last (left w n), Orphaned (count (λ g. stands_on w w.grants g && not (stands_on w (left w n) g)) (without number_of n w.grants)))
  done w (Draw caller h told) = (with_hook w h (key.Promised caller), Slip h caller (reverse (map number_of (unwrap_or (drawn w caller h told) []))))
  done w (Take h p) = (with_hook w h key.Out, Done)
  done w (Leave h p) = (with_hook w h key.In, Done)
  done w (Return caller h) = (with_hook w h key.In, Done)

  abbrev pub step : World → Call → World × Answer
  step w k = judged_by w (first_fault (checks w k)) (done w k)

  -- a list of calls, one after another, and their answers
  abbrev pub run : World → List Call → World
  run w [] = w
  run w (k ∷ ks) = run (step w k).0 ks

  abbrev pub answers : World → List Call → List Answer
  answers w [] = []
  answers w (k ∷ ks) = let a = step w k in a.1 ∷ answers a.0 ks

-- all of a state, as the plain record writes it down
abbrev pub whole : ℕ → State → State
whole set s = s
