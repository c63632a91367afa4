-- The promise over whole runs: of any list of the eight calls on one cabinet from new, refused ones included, under every
-- lawful condition language.
use Rattle.std.specs.Prelude.{◌≡◌, ℕ, List, ◌++◌, map, length, drop, is_some, None, Result, ◌≢◌}
use Rattle.std.specs.List.{AllByRecursion}
use Rattle.faults.specs.declared.Fault.{Fault}
use Rattle.faults.specs.declared.Refusal.TheVariants.{NoChain}
use Rattle.faults.specs.Faults.{fault}
use Rattle.states.specs.declared.state.State.{State}
use Rattle.states.specs.declared.report.Report.{Report}
use Rattle.states.specs.Reports.{state_of}
use Rattle.states.specs.States.{kept}
use Rattle.grants.specs.declared.Grant.{Grant}
use Rattle.conditions.specs.declared.truth.Truth.{Truth}
use Rattle.chains.specs.Chains.{Chain, Valid, Serves, Supports}
use Rattle.chains.specs.Laws.{recorded}
use Rattle.chains.specs.Words.{Same}
use Rattle.plain.specs.Record.{World, Call, Fit, Issue, Amend, Withdraw, Draw, Take, Leave, Return, By, Answer, Refused, Slip, new, owner, first_fault, draw_before, issue_before, amend_before, lookup, grant_at, seen, issued, amended, step, run, answers, whole}
use Rattle.plain.specs.Laws.{shrunk, SlipTells}
use Rattle.controller.specs.Runs.{shown}
use Rattle.controller.specs.declared.run.Answer.{Answer as Written}

module _ (size : ℕ) (says : ℕ → State → Truth) where
  -- the plain record after these calls: whole states are written down, and their kept parts judged
  abbrev pub after : List Call → World
  after past = run size says whole kept new past

  -- the plain answer to one call more
  abbrev pub replies : List Call → Call → Answer
  replies past call = (step size says whole kept (after past) call).1

  -- the state by which a recorded grant is judged: the kept part of the one that it was made under
  abbrev pub judged_by : List Call → Grant → State
  judged_by past = seen size says whole kept (after past)

  -- c, of at most eight recorded grants, is a chain of the hook h to q that justifies a draw
  abbrev pub Opens : List Call → ℕ → ℕ → Report → List Grant → Type 0
  Opens past q h told c = Serves says (judged_by past) (after past).grants h (owner (after past) h) q (state_of q None told) c

  -- c, of at most seven recorded grants, is a chain to its giver that justifies the grant g
  abbrev pub Backs : List Call → Grant → List Grant → Type 0
  Backs past g c = Supports says (judged_by past) (after past).grants (owner (after past)) g c

  -- a call that asks for a chain comes to that question: no earlier check refuses it
  abbrev pub Comes : List Call → Call → Type 0
  Comes past (Draw caller h told) = first_fault (draw_before caller h (owner (after past) h) (state_of caller None told)) ≡ None
  Comes past (Issue caller h grantee terms) =
      first_fault (issue_before size caller h (owner (after past) h) grantee terms.execute terms.onward (state_of caller None terms.report) (after past).last (length (after past).grants)) ≡ None
  Comes past (Amend caller n terms) =
      first_fault (amend_before size caller n terms.execute terms.onward (state_of caller None terms.report) (after past).last (is_some (lookup (after past).grants n)) (grant_at (after past).grants n).grantor) ≡ None
  Comes past (Fit owners set) = ⊥
  Comes past (Withdraw caller n) = ⊥
  Comes past (Take h p) = ⊥
  Comes past (Leave h p) = ⊥
  Comes past (Return caller h) = ⊥

  -- c justifies what the call asks for: the draw, or the grant that it would record
  abbrev pub Justifies : List Call → Call → List Grant → Type 0
  Justifies past (Draw caller h told) c = Opens past caller h told c
  Justifies past (Issue caller h grantee terms) c = Backs past (issued size says whole kept (after past) caller h grantee terms) c
  Justifies past (Amend caller n terms) c = Backs past (amended size says whole kept (after past) caller n terms) c
  Justifies past (Fit owners set) c = ⊥
  Justifies past (Withdraw caller n) c = ⊥
  Justifies past (Take h p) c = ⊥
  Justifies past (Leave h p) c = ⊥
  Justifies past (Return caller h) c = ⊥

  -- these calls were performed on a new cabinet; it then holds `held`, and the list of answers went from `given` to `written`
  pub record WholePromise (calls : List Call) (held : World) (given written : List (Result Written Fault)) : Type 0 where
    -- the cabinet's record is the plain record of the calls with kept states only, and its keys are where that record's are
    pub record_kept : held ≡ shrunk (after calls)
    -- each call answers as defined on the plain record; places behind the last answer are untouched
    pub answers_told : written ≡ map shown (answers size says whole kept new calls) ++ drop (length calls) given
    -- a draw, an issue and an amendment that come to it are refused for want of a chain exactly when none justifies them
    pub refused_unjustified : (past : List Call) (call : Call) → Comes past call
        → Same (replies past call ≡ Refused (fault NoChain 0)) ((c : List Grant) → Justifies past call c → ⊥)
    -- a draw that is accepted names the least chain that justifies it, and that is valid by the whole states too
    pub least_named : (past : List Call) (caller h : ℕ) (told : Report) (hook person : ℕ) (numbers : List ℕ)
        → replies past (Draw caller h told) ≡ Slip hook person numbers
        → SlipTells says (judged_by past) (after past) caller h told hook person numbers
    -- nobody breaks a chain that has no grant of his: after any further calls by p it justifies its draw, and 11 does not refuse it
    pub nobody_else : (past more : List Call) (p : ℕ) → AllByRecursion (By p) more → (q h : ℕ) (told : Report) (c : List Grant)
        → Opens past q h told c → AllByRecursion (λ (g : Grant). g.grantor ≢ p) c
        → Opens (past ++ more) q h told c × ((place : ℕ) → replies (past ++ more) (Draw q h told) ≢ Refused (fault NoChain place))
    -- a chain that is valid by the kept states is valid by the whole states that its grants were made under
    pub whole_too : (past : List Call) (q h : ℕ) (c : List Grant) → Chain (after past).grants h (owner (after past) h) c q
        → Valid says (judged_by past) c → Valid says recorded c
