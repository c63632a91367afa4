-- What a ledger holds, as the part of a cabinet that it is, and what its questions answer.
use Rattle.std.specs.Prelude.{ℕ, ◌+◌, Bool, true, List, [], ◌∷◌, ◌++◌, length, is_some, Some, None, Ok, Err, Option, Result, slice_index}
use Rattle.std.specs.Option.{unwrap_or}
use Rattle.faults.specs.declared.Fault.{Fault}
use Rattle.faults.specs.declared.Refusal.TheVariants.{NoSuchGrant}
use Rattle.faults.specs.Faults.{fault}
use Rattle.states.specs.declared.state.State.{State}
use Rattle.states.specs.declared.report.Report.{Report}
use Rattle.states.specs.Reports.{state_of}
use Rattle.states.specs.States.{kept}
use Rattle.grants.specs.declared.Grant.{Grant}
use Rattle.grants.specs.Blank.{blank}
use Rattle.conditions.specs.declared.truth.Truth.{Truth}
use Rattle.loans.specs.declared.state.HookState.{HookState}
use Rattle.register.specs.Held.{held}
use Rattle.chains.specs.Laws.{recorded}
use Rattle.chains.specs.Search.{stands, least_chain}
use Rattle.search.specs.declared.named.Named.{Named}
use Rattle.search.specs.Answers.{named_of}
use Rattle.plain.specs.Record.{World, Call, Answer, Done, judged_by, lookup, first_fault, fit_checks, chainless, issue_checks, amend_checks, draw_before, step, whole}
use Rattle.ledger.specs.declared.held.Ledger.{Ledger}
use Rattle.grants.specs.declared.terms.Terms.{Terms}
use Rattle.ledger.specs.Answers.{unless}

-- the cabinet that has this ledger, and its hooks in the states hs
abbrev pub world_with : Ledger → List HookState → World
world_with l hs = record { fitted = l.fitted; owners = l.owners; kept = l.kept; last = l.last; grants = held l.grants; hooks = hs }

abbrev pub owner_in : Ledger → ℕ → ℕ
owner_in l h = slice_index l.owners h

-- the grant that the caller gives under the next number: of its state the kept part is written down
abbrev pub given : Ledger → ℕ → ℕ → ℕ → Terms → Grant
given l caller hook grantee terms =
    record {
      number = l.last + 1;
      hook = hook;
      grantor = caller;
      grantee = grantee;
      execute = terms.execute;
      onward = terms.onward;
      mode = terms.mode;
      state = kept l.kept (state_of caller (Some grantee) terms.report);
    }

-- a fitting, beside hooks in the states hs: what it leaves, and what it answers. No language is asked
abbrev pub fit_on : Ledger → List HookState → List ℕ → ℕ → World × Answer
fit_on l hs owners set =
    judged_by (world_with l hs) (first_fault (fit_checks l.fitted owners set))
    (record { fitted = true; owners = owners; kept = set; last = l.last; grants = held l.grants; hooks = hs }, Done)

module _ (size : ℕ) (means : ℕ → State → Truth) where
  -- one call, beside hooks in the states hs: what it leaves, and what it answers. Kept states are written down, and judged
  abbrev pub step_on : Ledger → List HookState → Call → World × Answer
  step_on l hs call = step size means kept whole (world_with l hs) call

  -- whether a grant stands on the ledger
  abbrev pub stands_in : Ledger → Grant → Bool
  stands_in l g = stands means recorded (held l.grants) (owner_in l) g

  -- the checks of an issue and of an amendment that would record g; old is the grant to be replaced, if there is one
  abbrev pub issue_on : Ledger → Grant → Report → List (Option Fault)
  issue_on l g report =
      issue_checks size g.grantor g.hook (owner_in l g.hook) g.grantee g.execute g.onward (state_of g.grantor None report) l.last (length (held l.grants)) (stands_in l g)

  abbrev pub amend_on : Ledger → Option Grant → ℕ → Grant → Report → List (Option Fault)
  amend_on l old n g report =
      amend_checks size g.grantor n g.execute g.onward (state_of g.grantor None report) l.last (is_some old) (unwrap_or old blank).grantor (stands_in l g)

  -- the least chain that justifies a draw, and the numbers of its grants or the refusal
  abbrev pub chain_on_record : Ledger → ℕ → ℕ → Report → Option (List Grant)
  chain_on_record l caller hook report = least_chain means recorded (held l.grants) hook (owner_in l hook) caller (state_of caller None report)

  abbrev pub named_on : Ledger → ℕ → ℕ → Report → Result Named Fault
  named_on l caller hook report =
      unless (first_fault (draw_before caller hook (owner_in l hook) (state_of caller None report) ++ (chainless (is_some (chain_on_record l caller hook report)) ∷ [])))
      (named_of (unwrap_or (chain_on_record l caller hook report) []))

  -- whether the grant numbered n stands, or that there is none
  abbrev pub stands_by : Ledger → ℕ → Option Grant → Result Bool Fault
  stands_by l n None = Err (fault NoSuchGrant n)
  stands_by l n (Some g) = Ok (stands_in l g)

  abbrev pub standing_of : Ledger → ℕ → Result Bool Fault
  standing_of l n = stands_by l n (lookup (held l.grants) n)
