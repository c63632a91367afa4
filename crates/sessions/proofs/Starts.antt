-- What the cabinet prints is what the plain record prints.
use Rattle.std.proofs.Common.{◌≡◌, ℕ, ◌+◌, ◌-◌, false, List, length, Some, None, Ok, Err, Option, Result, refl, ap, ◌∙◌, arith}
use Rattle.std.specs.Result.{result_unwrap_or}
use Rattle.faults.specs.declared.Fault.{Fault}
use Rattle.states.specs.declared.state.State.{State}
use Rattle.states.specs.States.{kept}
use Rattle.conditions.specs.declared.truth.Truth.{Truth}
use Rattle.books.specs.Books.{checked, book_says}
use Rattle.plain.specs.Record.{World, Fit, Done, new, judged_by, refused_by, first_fault, passed, fit_checks, step, whole}
use Rattle.ledger.specs.Answers.{done}
use Rattle.controller.specs.declared.cabinet.Cabinet.{Cabinet}
use Rattle.controller.specs.Cabinets.{world, reply, Follows}
use Rattle.frames.specs.Frames.{Parts, and_then, laid_out}
use Rattle.sessions.specs.Lines.{unread}
use Rattle.sessions.specs.Sessions.{lines, commands_from, answered, prepared, shown, session}
use Rattle.sessions.specs.Performing.{judgement, Fitted, continues, runs}
use Rattle.sessions.proofs.Performed.{shows_step, shows_new, same_lines}

accepted : {A B : Type 0} (r : Result A Fault) (x : Result B Fault) (k : B) → and_then (λ (_ : A). x) r ≡ Ok k → x ≡ Ok k
accepted (Ok a) x k e = e
accepted (Err f) x k e = let z : ◌≡◌ {A = ℕ} 0 1 = cc in absurd (omega arith)

-- the commands' lines on a fitted cabinet
fitted_lines : (file : List ℕ) (p : Parts) (k : ℕ)
    → lines (k + 2) (book_says p.book k) kept whole (step (k + 2) (book_says p.book k) kept whole new (Fit p.owners p.kept)).0 1 (commands_from (length file - length p.commands) p.commands) ≡ answered file p k
fitted_lines file p k =
    same_lines (k + 2) (book_says p.book k) _ _ 1 (commands_from (length file - length p.commands) p.commands)
    (shows_step (k + 2) (book_says p.book k) new new (Fit p.owners p.kept) shows_new).0

by_judgement : (file : List ℕ) (p : Parts) (size : ℕ) (means : ℕ → State → Truth) (r : Result ℕ Fault) → ((k : ℕ) → r ≡ Ok k → (size ≡ k + 2) × (means ≡ book_says p.book k))
    → shown (and_then (λ (_ : Unit {0}). Ok (lines size means kept whole (step size means kept whole new (Fit p.owners p.kept)).0 1 (commands_from (length file - length p.commands) p.commands))) (judgement r))
    ≡ shown (and_then (λ (k : ℕ). Ok (answered file p k)) r)
by_judgement file p size means (Err e) h = refl
by_judgement file p size means (Ok k) h =
    let q = h k refl in
    (λ i. lines (q.0 i) (q.1 i) kept whole (step (q.0 i) (q.1 i) kept whole new (Fit p.owners p.kept)).0 1 (commands_from (length file - length p.commands) p.commands))
    ∙ fitted_lines file p k

-- the book of a file, opened
pub same_text : (file : List ℕ) (p : Parts) (count : ℕ) (book : List ℕ) → Ok p ≡ laid_out file → book ≡ p.book → count ≡ result_unwrap_or (checked book) 0
    → runs (count + 2) (book_says book count) p (length file) ≡ session file
same_text file p count book laid b n =
    by_judgement file p (count + 2) (book_says book count) (prepared p)
    (λ k e.
    let c : checked p.book ≡ Ok k = accepted (passed (fit_checks false p.owners p.kept)) (checked p.book) k e in
    let m : count ≡ k = n ∙ ap (λ (x : Result ℕ Fault). result_unwrap_or x 0) (ap checked b ∙ c) in
    (ap (λ x. x + 2) m, λ i. book_says (b i) (m i)))
    ∙ ap (λ (r : Result Parts Fault). shown (and_then (λ (q : Parts). and_then (λ (k : ℕ). Ok (answered file q k)) (prepared q)) r)) laid

-- the fit of a new cabinet
done_by : (v : World) (o : Option Fault) → done (judged_by new o (v, Done)).1 ≡ refused_by o
done_by v None = refl
done_by v (Some e) = refl

module _ {L : Type 0} (size : L → ℕ) (says : L → ℕ → State → Truth) (before after : Cabinet L) (p : Parts) (fresh : world before ≡ new) where
  pub fit_told : (r : Result (Unit {0}) Fault) → r ≡ done (reply size says before (Fit p.owners p.kept)) → r ≡ passed (fit_checks false p.owners p.kept)
  fit_told r e =
      e ∙ ap (λ w. done (step (size before.language) (says before.language) kept whole w (Fit p.owners p.kept)).1) fresh
      ∙ done_by _ (first_fault (fit_checks false p.owners p.kept))

  pub fitted : (r : Result (Unit {0}) Fault) → Follows size says before (Fit p.owners p.kept) after → r ≡ judgement (prepared p) → Fitted size says before p r after
  fitted r f e = record {
    language = f.language;
    held = f.held ∙ ap (λ w. (step (size before.language) (says before.language) kept whole w (Fit p.owners p.kept)).0) fresh;
    answered_so = e;
  }

-- the fit is refused, or else the book is judged
pub fit_refused : (p : Parts) (e : Fault) → Err e ≡ passed (fit_checks false p.owners p.kept) → Err e ≡ judgement (prepared p)
fit_refused p e q = ap (λ (r : Result (Unit {0}) Fault). judgement (and_then (λ (_ : Unit {0}). checked p.book) r)) q

pub fit_accepted : (p : Parts) (d : Unit {0}) (r : Result ℕ Fault) → Ok d ≡ passed (fit_checks false p.owners p.kept) → r ≡ checked p.book → judgement r ≡ judgement (prepared p)
fit_accepted p d r q e = ap judgement (e ∙ ap (and_then (λ (_ : Unit {0}). checked p.book)) q)

pub err_passed_on : (r q : Result (Unit {0}) Fault) (x e : Fault) → r ≡ Err x → x ≡ e → Err e ≡ q → r ≡ q
err_passed_on r q x e p s t = p ∙ ap (λ (f : Fault). Err f) s ∙ t

-- the text of a session whose set-up was accepted
pub run_text : {L : Type 0} (size : L → ℕ) (says : L → ℕ → State → Truth) (before after : Cabinet L) (p : Parts) (end : ℕ) (d : Unit {0}) → Fitted size says before p (Ok d) after
    → continues size says after 1 (end - length p.commands) p.commands ≡ runs (size before.language) (says before.language) p end
run_text size says before after p end d f =
    (λ i. lines (size (f.language i)) (says (f.language i)) kept whole (f.held i) 1 (commands_from (end - length p.commands) p.commands))
    ∙ ap (λ (r : Result (Unit {0}) Fault). shown (and_then (λ (_ : Unit {0}). Ok (lines (size before.language) (says before.language) kept whole (step (size before.language) (says before.language) kept whole new (Fit p.owners p.kept)).0 1 (commands_from (end - length p.commands) p.commands))) r)) f.answered_so

pub run_refused : {L : Type 0} (size : L → ℕ) (says : L → ℕ → State → Truth) (before after : Cabinet L) (p : Parts) (end : ℕ) (e : Fault) → Fitted size says before p (Err e) after
    → unread 0 e ≡ runs (size before.language) (says before.language) p end
run_refused size says before after p end e f =
    ap (λ (r : Result (Unit {0}) Fault). shown (and_then (λ (_ : Unit {0}). Ok (lines (size before.language) (says before.language) kept whole (step (size before.language) (says before.language) kept whole new (Fit p.owners p.kept)).0 1 (commands_from (end - length p.commands) p.commands))) r)) f.answered_so
