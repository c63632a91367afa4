-- A run, call by call, and the promise at its end.
use Rattle.std.proofs.Common.{◌≡◌, ℕ, ◌+◌, ◌<◌, ◌≤◌, min, List, [], ◌∷◌, ◌++◌, map, length, get_or, take, drop, set, None, Result, sym, refl, ap, ◌∙◌, subst, ⊎_elim, arith, take-append-drop, length-take, drop-drop, drop-set-lt}
use mathlib.Core.List.{map-append}
use lib.ListN.{length-map}
use Rattle.std.proofs.lemmas.List.{take_more, take_more_set, get_or-map, take_all}
use Rattle.std.proofs.lemmas.Bool.{cases_lt}
use Rattle.faults.specs.declared.Fault.{Fault}
use Rattle.faults.specs.declared.Refusal.TheVariants.{NoChain}
use Rattle.faults.specs.Faults.{fault}
use Rattle.states.specs.declared.state.State.{State}
use Rattle.states.specs.Reports.{state_of}
use Rattle.states.specs.States.{kept}
use Rattle.grants.specs.declared.Grant.{Grant}
use Rattle.conditions.specs.declared.truth.Truth.{Truth}
use Rattle.conditions.specs.Laws.{Lawful}
use Rattle.chains.specs.Chains.{Serves}
use Rattle.chains.specs.Words.{Same}
use Rattle.plain.specs.Record.{World, Call, Fit, Issue, Amend, Withdraw, Draw, Take, Leave, Return, Answer, Refused, new, owner, seen, step, run, answers, whole}
use Rattle.plain.proofs.Gathered.{record_laws}
use Rattle.controller.specs.declared.cabinet.Cabinet.{Cabinet}
use Rattle.controller.specs.declared.run.Call.{Call as Made}
use Rattle.controller.specs.declared.run.Answer.{Answer as Written}
use Rattle.controller.specs.Cabinets.{world, reply, Follows}
use Rattle.controller.specs.Runs.{asked, shown}
use Rattle.controller.specs.Promise.{after, replies, Comes, Justifies, WholePromise}

module _ (size : ℕ) (says : ℕ → State → Truth) (put see : ℕ → State → State) where
  run-++ : (w : World) (a b : List Call) → run size says put see w (a ++ b) ≡ run size says put see (run size says put see w a) b
  run-++ w [] b = refl
  run-++ w (k ∷ a) b = run-++ (step size says put see w k).0 a b

  answers-++ : (w : World) (a b : List Call) → answers size says put see w (a ++ b) ≡ answers size says put see w a ++ answers size says put see (run size says put see w a) b
  answers-++ w [] b = refl
  answers-++ w (k ∷ a) b = ap (λ l. (step size says put see w k).1 ∷ l) (answers-++ (step size says put see w k).0 a b)

-- the first i calls are performed
pub record Sofar {L : Type 0} (size : L → ℕ) (says : L → ℕ → State → Truth) (language : L) (calls : List Call) (given : List (Result Written Fault)) (i : ℕ) (c : Cabinet L) (written : List (Result Written Fault)) : Type 0 where
  pub same : c.language ≡ language
  pub held : world c ≡ run (size language) (says language) kept whole new (take i calls)
  pub told : take i written ≡ map shown (answers (size language) (says language) kept whole new (take i calls))
  pub rest : drop i written ≡ drop i given

module _ {L : Type 0} (size : L → ℕ) (says : L → ℕ → State → Truth) where
  -- one call more
  once_more : (language : L) (calls : List Call) (given : List (Result Written Fault)) (i : ℕ) (c d : Cabinet L) (written : List (Result Written Fault)) (k : Call) (a : Result Written Fault)
      → Sofar size says language calls given i c written → i < length calls → i < length written → get_or calls i k ≡ k → a ≡ shown (reply size says c k) → Follows size says c k d
      → Sofar size says language calls given (i + 1) d (set written i a)
  once_more language calls given i c d written k a s lc lw at is f =
      let n = size language in
      let m = says language in
      let more : take (i + 1) calls ≡ take i calls ++ (k ∷ []) = take_more calls i k lc ∙ ap (λ x. take i calls ++ (x ∷ [])) at in
      let w = run n m kept whole new (take i calls) in
      let here : step (size c.language) (says c.language) kept whole (world c) k ≡ step n m kept whole w k = λ j. step (size (s.same j)) (says (s.same j)) kept whole (s.held j) k in
      record {
        same = f.language ∙ s.same;
        held = f.held ∙ ap (λ (x : World × Answer). x.0) here ∙ sym (ap (run n m kept whole new) more ∙ run-++ n m kept whole new (take i calls) (k ∷ []));
        told =
            take_more_set written i a lw
            ∙ (λ j. s.told j ++ ((is ∙ ap (λ (x : World × Answer). shown x.1) here) j ∷ []))
            ∙ sym (ap (λ l. map shown (answers n m kept whole new l)) more ∙ ap (map shown) (answers-++ n m kept whole new (take i calls) (k ∷ [])) ∙ map-append shown (answers n m kept whole new (take i calls)) ((step n m kept whole w k).1 ∷ []));
        rest = drop-set-lt (i + 1) written i a (omega arith) ∙ sym (drop-drop 1 i written) ∙ ap (drop 1) s.rest ∙ drop-drop 1 i given;
      }

  -- the same at the calls as they are made
  pub call_more : (language : L) (calls : List Made) (given : List (Result Written Fault)) (i : ℕ) (c d : Cabinet L) (written : List (Result Written Fault)) (e : Made) (a : Result Written Fault)
      → Sofar size says language (map asked calls) given i c written → i < length calls → i < length written
      → a ≡ shown (reply size says c (asked (get_or calls i e))) → Follows size says c (asked (get_or calls i e)) d
      → Sofar size says language (map asked calls) given (i + 1) d (set written i a)
  call_more language calls given i c d written e a s lc lw is f =
      let k = asked (get_or calls i e) in
      once_more language (map asked calls) given i c d written k a s (subst (λ n. i < n) (sym (length-map calls asked)) lc) lw (get_or-map asked calls i e k lc) is f

module _ (size : ℕ) (says : ℕ → State → Truth) where
  -- none of a sort is none at all
  each : {A : Type 0} {P : List Grant → Type 0} → Same A (((c : List Grant) × P c) → ⊥) → Same A ((c : List Grant) → P c → ⊥)
  each s = (λ a c p. s.0 a (c, p), λ none. s.1 (λ x. none x.0 x.1))

  unjustified : (past : List Call) (call : Call) → Comes size says past call → Same (replies size says past call ≡ Refused (fault NoChain 0)) ((c : List Grant) → Justifies size says past call c → ⊥)
  unjustified past (Draw caller h told) pass = (record_laws.runs size says whole kept).draw_refused (after size says past) caller h told pass
  unjustified past (Issue caller h grantee terms) pass = each ((record_laws.runs size says whole kept).issue_refused (after size says past) caller h grantee terms pass)
  unjustified past (Amend caller n terms) pass = each ((record_laws.runs size says whole kept).amend_refused (after size says past) caller n terms pass)
  unjustified past (Fit owners set) pass = absurd pass
  unjustified past (Withdraw caller n) pass = absurd pass
  unjustified past (Take h p) pass = absurd pass
  unjustified past (Leave h p) pass = absurd pass
  unjustified past (Return caller h) pass = absurd pass

  promised : Lawful size says → (calls : List Call) (held : World) (given written : List (Result Written Fault))
      → held ≡ run size says kept whole new calls
      → written ≡ map shown (answers size says kept whole new calls) ++ drop (length calls) given
      → WholePromise size says calls held given written
  promised ok calls held given written h t = record {
    record_kept = h ∙ record_laws.kept_record size says calls;
    answers_told = t ∙ ap (λ l. map shown l ++ drop (length calls) given) (record_laws.kept_answers size says calls);
    refused_unjustified = unjustified;
    least_named = λ past caller x told hook person numbers. (record_laws.lawful size says ok).slip_tells past caller x told hook person numbers;
    nobody_else = λ past more p by q x told c opens free.
        let P : World → Type 0 = λ v. Serves says (seen size says whole kept v) v.grants x (owner v x) q (state_of q None told) c × ((place : ℕ) → (step size says whole kept v (Draw q x told)).1 ≡ Refused (fault NoChain place) → ⊥) in
        subst P (sym (run-++ size says whole kept new past more)) ((record_laws.runs size says whole kept).unbroken past more p by x q told c opens free);
    whole_too = λ past q x c chain valid. (record_laws.lawful size says ok).valid_whole past x (owner (after size says past) x) q c chain valid;
  }

-- the calls that are performed are those that have a place
take_min : {X : Type 0} (xs : List X) (i n : ℕ) → i ≡ min (length xs) n → take i xs ≡ take n xs
take_min xs i n e =
    ⊎_elim (λ (l : length xs < n). take_all i xs (omega (arith, e)) ∙ sym (take_all n xs (omega arith)))
    (λ (l : n ≤ length xs). let f : i ≡ n = omega (arith, e) in ap (λ k. take k xs) f) (cases_lt (length xs) n)

pub finished : {L : Type 0} (size : L → ℕ) (says : L → ℕ → State → Truth) → ((l : L) → Lawful (size l) (says l))
    → (l m : L) → l ≡ m → (calls : List Made) (given written : List (Result Written Fault)) (i : ℕ) (c : Cabinet L)
    → Sofar size says l (map asked calls) given i c written → i ≡ min (length calls) (length given)
    → WholePromise (size m) (says m) (take (length given) (map asked calls)) (world c) given written
finished size says ok l m e calls given written i c s f =
    let t = subst (λ x. Sofar size says x (map asked calls) given i c written) e s in
    let ks = map asked calls in
    let g : take i ks ≡ take (length given) ks = take_min ks i (length given) (f ∙ ap (λ n. min n (length given)) (sym (length-map calls asked))) in
    let n : length (take (length given) ks) ≡ i = omega (arith, length-take (length given) ks, length-map calls asked, f) in
    promised (size m) (says m) (ok m) (take (length given) ks) (world c) given written
    (t.held ∙ ap (run (size m) (says m) kept whole new) g)
    (sym (take-append-drop i written) ∙ (λ j. (t.told ∙ ap (λ x. map shown (answers (size m) (says m) kept whole new x)) g) j ++ (t.rest ∙ ap (λ k. drop k given) (sym n)) j))
