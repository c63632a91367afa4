-- A call by its checks: done where they pass, refused where one fails.
use Rattle.std.proofs.Common.{◌≡◌, ℕ, ◌<◌, ◌≤◌, Bool, true, false, not, leb, List, [], ◌∷◌, ◌++◌, length, is_some, IsErrAnd, IfOk, Some, None, Ok, Err, Option, Result, unwrap_or, sym, refl, ap, ◌∙◌, arith}
use Rattle.std.proofs.lemmas.Bool.{leb-false, le-leb, and_from}
use Rattle.std.proofs.lemmas.List.{length-take}
use Rattle.numbered.specs.Rows.{rises_from}
use Rattle.faults.specs.Faults.{fault}
use Rattle.faults.specs.declared.Refusal.TheVariants.{NoChain}
use Rattle.search.specs.declared.named.Named.{Named}
use Rattle.search.specs.Answers.{named_of, named}
use Rattle.search.specs.Records.{is_record}
use Rattle.register.specs.declared.table.Register.{Register}
use Rattle.faults.specs.declared.Fault.{Fault}
use Rattle.std.specs.Option.{ok_or}
use Rattle.chains.specs.Laws.{recorded}
use Rattle.chains.proofs.Sound.{chosen_serves}
use Rattle.std.proofs.lemmas.Result.{err_from_is_err_and}
use Rattle.states.specs.declared.report.Report.{Report}
use Rattle.states.specs.Reports.{state_of}
use Rattle.states.specs.Ranges.{range_check}
use Rattle.states.specs.States.{kept}
use Rattle.states.specs.declared.state.State.{State}
use Rattle.conditions.specs.declared.truth.Truth.{Truth}
use Rattle.plain.specs.Record.{lookup, grant_at, World, Call, Answer, checks, done, step, whole, Refused, first_fault, judged_by, passed, refused_by, found, person, real_hook, condition, receiver, own_grant, numbers_left, place_free, chainless, draw_before, issue_checks, amend_checks}
use Rattle.plain.proofs.Checked.{through, stopped, skipped, all_pass, off}
use Rattle.register.specs.Held.{held, numbers}
use Rattle.grants.specs.declared.Grant.{Grant}
use Rattle.ledger.specs.declared.held.Ledger.{Ledger}
use Rattle.grants.specs.Blank.{blank}
use Rattle.grants.specs.declared.terms.Terms.{Terms}
use Rattle.ledger.specs.Answers.{unless}
use Rattle.ledger.specs.Ledgers.{owner_in, given, issue_on, amend_on, chain_on_record, named_on}

ok_err : {u : Unit {0}} {e : Fault} → ◌≡◌ {A = Result (Unit {0}) Fault} (Ok u) (Err e) → ⊥
ok_err k = let z : ◌≡◌ {A = ℕ} 0 1 = cc k in omega (arith, z)

none_found : (o : Option Fault) (u : Unit {0}) → Ok u ≡ refused_by o → o ≡ None
none_found None u k = refl
none_found (Some e) u k = absurd (ok_err k)

one_found : (o : Option Fault) (e : Fault) → Err e ≡ refused_by o → o ≡ Some e
one_found None e k = absurd (ok_err (sym k))
one_found (Some f) e k = let same : f ≡ e = cc (sym k) in ap (λ (x : Fault). Some x) same

pub pass : (cs : List (Option Fault)) (u : Unit {0}) → Ok u ≡ passed cs → first_fault cs ≡ None
pass cs u k = none_found (first_fault cs) u k

-- what was passed is done, and what was not leaves everything as it was
module _ (size : ℕ) (means : ℕ → State → Truth) (w : World) (call : Call) where
  pub performs : (u : Unit {0}) → Ok u ≡ passed (checks size means kept whole w call) → step size means kept whole w call ≡ done size means kept whole w call
  performs u k = ap (λ o. judged_by w o (done size means kept whole w call)) (pass (checks size means kept whole w call) u k)

  refused : (e : Fault) → Err e ≡ passed (checks size means kept whole w call) → step size means kept whole w call ≡ (w, Refused e)
  refused e k = ap (λ o. judged_by w o (done size means kept whole w call)) (one_found (first_fault (checks size means kept whole w call)) e k)

  -- the same of an error that was passed on, and told
  pub refuses : {A : Type 0} (tell : Answer → Result A Fault) → ((e : Fault) → tell (Refused e) ≡ Err e) → (r : Result A Fault) (e : Fault) → IsErrAnd r (λ y. y ≡ e)
      → Err e ≡ passed (checks size means kept whole w call) → (r ≡ tell (step size means kept whole w call).1) × (w ≡ (step size means kept whole w call).0)
  refuses tell tells r e err k =
      let p = err_from_is_err_and r err in
      let so = refused e k in
      (p.1 ∙ ap (λ (f : Fault). Err f) p.2 ∙ sym (ap (λ (a : World × Answer). tell a.1) so ∙ tells e), sym (ap (λ (a : World × Answer). a.0) so))

-- the checks that are made together
abbrev pub parties : ℕ → ℕ → ℕ → ℕ → List (Option Fault)
parties caller grantee h o = person caller 2 ∷ person grantee 4 ∷ real_hook h o ∷ []

abbrev pub terms : ℕ → ℕ → ℕ → ℕ → Report → List (Option Fault)
terms size caller x y report = found (range_check (state_of caller None report)) ∷ condition size x 5 ∷ condition size y 6 ∷ []

abbrev pub room : ℕ → ℕ → ℕ → ℕ → ℕ → List (Option Fault)
room grantee caller o last places = receiver grantee caller o ∷ numbers_left last ∷ place_free places ∷ []

-- an issue by what is still to be checked
module _ (size caller h o grantee x y : ℕ) (report : Report) (last places : ℕ) (j : Bool) (u : Unit {0}) where
  abbrev whole_issue : List (Option Fault)
  whole_issue = issue_checks size caller h o grantee x y (state_of caller None report) last places j

  abbrev pub issue_from_room : List (Option Fault)
  issue_from_room = room grantee caller o last places ++ (chainless j ∷ [])

  abbrev pub issue_from_terms : List (Option Fault)
  issue_from_terms = terms size caller x y report ++ issue_from_room

  pub issue_parties : Ok u ≡ passed (parties caller grantee h o) → passed whole_issue ≡ passed issue_from_terms
  issue_parties k = through (parties caller grantee h o) issue_from_terms u k

  pub issue_terms : Ok u ≡ passed (parties caller grantee h o) → Ok u ≡ passed (terms size caller x y report) → passed whole_issue ≡ passed issue_from_room
  issue_terms k m = issue_parties k ∙ through (terms size caller x y report) issue_from_room u m

  pub issue_room : Ok u ≡ passed (parties caller grantee h o) → Ok u ≡ passed (terms size caller x y report) → Ok u ≡ passed (room grantee caller o last places) → passed whole_issue ≡ passed (chainless j ∷ [])
  issue_room k m n = issue_terms k m ∙ through (room grantee caller o last places) (chainless j ∷ []) u n

-- an amendment likewise
module _ (size caller n x y : ℕ) (report : Report) (last : ℕ) (there : Bool) (grantor : ℕ) (j : Bool) (u : Unit {0}) where
  abbrev whole_amend : List (Option Fault)
  whole_amend = amend_checks size caller n x y (state_of caller None report) last there grantor j

  abbrev pub amend_from_numbers : List (Option Fault)
  amend_from_numbers = numbers_left last ∷ chainless j ∷ []

  abbrev pub amend_from_grant : List (Option Fault)
  amend_from_grant = own_grant there grantor caller n ++ amend_from_numbers

  abbrev pub amend_from_terms : List (Option Fault)
  amend_from_terms = terms size caller x y report ++ amend_from_grant

  pub amend_person : Ok u ≡ passed (person caller 2 ∷ []) → passed whole_amend ≡ passed amend_from_terms
  amend_person k = through (person caller 2 ∷ []) amend_from_terms u k

  pub amend_terms : Ok u ≡ passed (person caller 2 ∷ []) → Ok u ≡ passed (terms size caller x y report) → passed whole_amend ≡ passed amend_from_grant
  amend_terms k m = amend_person k ∙ through (terms size caller x y report) amend_from_grant u m

  pub amend_grant : Ok u ≡ passed (person caller 2 ∷ []) → Ok u ≡ passed (terms size caller x y report) → Ok u ≡ passed (own_grant there grantor caller n) → passed whole_amend ≡ passed amend_from_numbers
  amend_grant k m p = amend_terms k m ∙ through (own_grant there grantor caller n) amend_from_numbers u p

  pub amend_numbers : Ok u ≡ passed (person caller 2 ∷ []) → Ok u ≡ passed (terms size caller x y report) → Ok u ≡ passed (own_grant there grantor caller n) → Ok u ≡ passed (numbers_left last ∷ [])
      → passed whole_amend ≡ passed (chainless j ∷ [])
  amend_numbers k m p q = amend_grant k m p ∙ through (numbers_left last ∷ []) (chainless j ∷ []) u q

-- what the checks of an issue and of an amendment leave: a number, and for an issue a place
module _ (size : ℕ) (means : ℕ → State → Truth) (l : Ledger) (k : Grant) (report : Report) where
  pub issue_left : (u : Unit {0}) → Ok u ≡ passed (issue_on size means l k report) → (l.last < 1000000) × (length (held l.grants) < 96)
  issue_left u e =
      let p = all_pass (issue_on size means l k report) (pass (issue_on size means l k report) u e) in
      (leb-false 1000000 l.last (off _ _ p.1.1.1.1.1.1.1.0), leb-false 96 (length (held l.grants)) (off _ _ p.1.1.1.1.1.1.1.1.0))

  pub amend_left : (old : Option Grant) (n : ℕ) (u : Unit {0}) → Ok u ≡ passed (amend_on size means l old n k report) → (l.last < 1000000) × (not (is_some old) ≡ false)
  amend_left old n u e =
      let p = all_pass (amend_on size means l old n k report) (pass (amend_on size means l old n k report) u e) in
      (leb-false 1000000 l.last (off _ _ p.1.1.1.1.1.1.0), off _ _ p.1.1.1.1.0)

-- the grant that an amendment makes of the old one, as the code makes it
pub amended_is : (l : Ledger) (caller n : ℕ) (t : Terms) (old : Option Grant) (known default IfOk : Grant) → old ≡ lookup (held l.grants) n → default ≡ blank → known ≡ unwrap_or old default
    → IfOk ≡ given l caller known.hook known.grantee t → IfOk ≡ given l caller (grant_at (held l.grants) n).hook (grant_at (held l.grants) n).grantee t
amended_is l caller n t old known default IfOk found none is e =
    let so : known ≡ grant_at (held l.grants) n = is ∙ (λ i. unwrap_or (found i) (none i)) in
    e ∙ ap (λ (k : Grant). given l caller k.hook k.grantee t) so

-- a draw by its checks, up to the chain
pub visit_passed : (before : List (Option Fault)) (u : Unit {0}) (o : Option (List Grant)) (r : Result Named Fault) → Ok u ≡ passed before → r ≡ ok_or (named o) (fault NoChain 0)
    → r ≡ unless (first_fault (before ++ (chainless (is_some o) ∷ []))) (named_of (unwrap_or o []))
visit_passed before u o r k e = e ∙ by_chain o ∙ sym (ap (λ f. unless f (named_of (unwrap_or o []))) (skipped before (chainless (is_some o) ∷ []) (pass before u k)))
  where
    by_chain : (o : Option (List Grant)) → ok_or (named o) (fault NoChain 0) ≡ unless (first_fault (chainless (is_some o) ∷ [])) (named_of (unwrap_or o []))
    by_chain None = refl
    by_chain (Some c) = refl

pub visit_refused : {A : Type 0} (before after : List (Option Fault)) (a : A) (r : Result A Fault) (e : Fault) → IsErrAnd r (λ y. y ≡ e) → Err e ≡ passed before → r ≡ unless (first_fault (before ++ after)) a
visit_refused before after a r e told k =
    let p = err_from_is_err_and r told in
    p.1 ∙ ap (λ (f : Fault). Err f) p.2 ∙ sym (ap (λ o. unless o a) (one_found (first_fault (before ++ after)) e (stopped before after e k)))

-- what a register holds is a record
pub is_record_lem : (r : Register) → is_record (held r) ≡ true
is_record_lem r = and_from (leb (length (held r)) 96) (rises_from numbers 0 (held r)) (le-leb (length (held r)) 96 (omega (arith, length-take r.count r.rows, r.within))) r.rises

-- a chain that a draw names has at most eight grants
pub named_short : (size : ℕ) (means : ℕ → State → Truth) (l : Ledger) (caller h : ℕ) (report : Report) → IfOk (named_on size means l caller h report) (λ (n : Named). n.length ≤ 8)
named_short size means l caller h report =
    go (first_fault (draw_before caller h (owner_in l h) (state_of caller None report) ++ (chainless (is_some (chain_on_record size means l caller h report)) ∷ []))) (chain_on_record size means l caller h report) refl
  where
    short : (o : Option (List Grant)) → chain_on_record size means l caller h report ≡ o → length (unwrap_or o []) ≤ 8
    short None e = omega arith
    short (Some c) e = (chosen_serves means recorded (held l.grants) h (owner_in l h) caller (state_of caller None report) c e).1

    go : (f : Option Fault) (o : Option (List Grant)) → chain_on_record size means l caller h report ≡ o → IfOk (unless f (named_of (unwrap_or o []))) (λ (n : Named). n.length ≤ 8)
    go None o e = short o e
    go (Some x) o e = tt
