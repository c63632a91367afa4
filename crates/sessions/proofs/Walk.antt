-- A session as far as it has come.
use Rattle.std.proofs.Common.{◌≡◌, ℕ, suc, ◌+◌, ◌-◌, ◌<◌, ◌≤◌, List, [], ◌∷◌, ◌++◌, map, length, Some, None, Ok, Err, Result, sym, refl, ap, ◌∙◌, subst, append_assoc, append-nil, arith}
use Rattle.faults.specs.declared.Fault.{Fault}
use Rattle.states.specs.declared.state.State.{State}
use Rattle.states.specs.States.{kept}
use Rattle.conditions.specs.declared.truth.Truth.{Truth}
use Rattle.plain.specs.Record.{World, whole}
use Rattle.controller.specs.declared.cabinet.Cabinet.{Cabinet}
use Rattle.controller.specs.Cabinets.{world}
use Rattle.command_words.specs.declared.Command.{Command}
use Rattle.commands.specs.Law.{ill}
use Rattle.commands.specs.Reading.{reading}
use Rattle.frames.specs.Frames.{and_then, next_command, records}
use Rattle.frames.proofs.Records.{took, records_none, records_end}
use Rattle.sessions.specs.Lines.{unread}
use Rattle.sessions.specs.Sessions.{leaves, line_of, lines, commands_from}
use Rattle.sessions.specs.Performing.{Answers, writes, continues}

module _ (size : ℕ) (means : ℕ → State → Truth) (put see : ℕ → State → State) where
  lines_more : (w : World) (n : ℕ) (c : Result Command Fault) (more : List (Result Command Fault))
      → lines size means put see w n (c ∷ more) ≡ line_of size means put see w n c ++ lines size means put see (leaves size means put see w c) (n + 1) more
  unfolding lines
  lines_more w n c more = refl

  lines_none : (w : World) (n : ℕ) → lines size means put see w n [] ≡ []
  unfolding lines
  lines_none w n = refl

-- n is the count of the next command, and `rest` stands before the end of the file
pub record Sofar {L : Type 0} (size : L → ℕ) (says : L → ℕ → State → Truth) (start : Cabinet L) (end : ℕ) (all : List ℕ) (c : Cabinet L) (n : ℕ) (rest text : List ℕ) : Type 0 where
  pub language : c.language ≡ start.language
  pub same : text ++ continues size says c n (end - length rest) rest ≡ continues size says start 1 (end - length all) all
  pub within : length rest ≤ end
  pub counted : n + length rest ≤ suc (length all)

module _ {L : Type 0} (size : L → ℕ) (says : L → ℕ → State → Truth) (start : Cabinet L) (end : ℕ) (all : List ℕ) where
  pub sofar_start : length all ≤ end → Sofar size says start end all start 1 all []
  sofar_start w = record { language = refl; same = refl; within = w; counted = omega arith }

  module _ (c : Cabinet L) (n : ℕ) (rest text : List ℕ) (s : Sofar size says start end all c n rest text) where
    abbrev put_to : World → ℕ → List (Result Command Fault) → List ℕ
    put_to w k cs = lines (size c.language) (says c.language) kept whole w k cs

    sofar_more : (v more line : List ℕ) (d : Cabinet L) → Some (v, more) ≡ next_command rest → Answers size says c v d → line ≡ writes size says c n v
        → Sofar size says start end all d (n + 1) more (text ++ line)
    sofar_more v more line d e a l =
        let t = took rest v more (sym e) in
        let m : length rest ≡ 3 + (length v + length more) = t.shorter in
        let w : length rest ≤ end = s.within in
        let k : n + length rest ≤ suc (length all) = s.counted in
        let o : (end - length rest) + (3 + length v) ≡ end - length more = omega arith in
        let here : continues size says c n (end - length rest) rest ≡ line ++ continues size says d (n + 1) (end - length more) more =
        ap (λ rs. put_to (world c) n (map (and_then reading) rs)) (t.on (end - length rest) ∙ ap (λ j. Ok v ∷ records 0 j more) o)
        ∙ lines_more (size c.language) (says c.language) kept whole (world c) n (reading v) (commands_from (end - length more) more)
        ∙ (λ i. sym l i ++ lines (size (sym a.language i)) (says (sym a.language i)) kept whole (sym a.held i) (n + 1) (commands_from (end - length more) more)) in
        record {
          language = a.language ∙ s.language;
          same = append_assoc text line (continues size says d (n + 1) (end - length more) more) ∙ ap (λ r. text ++ r) (sym here) ∙ s.same;
          within = omega arith;
          counted = omega arith;
        }

    -- something stands there that is no command
    sofar_stop : (line : List ℕ) → 0 < length rest → None ≡ next_command rest → line ≡ unread n (ill (end - length rest)) → text ++ line ≡ continues size says start 1 (end - length all) all
    sofar_stop line h e l =
        let f = ill (end - length rest) in
        let here : continues size says c n (end - length rest) rest ≡ line =
        ap (λ rs. put_to (world c) n (map (and_then reading) rs)) (records_none (end - length rest) rest h (sym e))
        ∙ lines_more (size c.language) (says c.language) kept whole (world c) n (Err f) []
        ∙ (λ i. sym l i ++ lines_none (size c.language) (says c.language) kept whole (world c) (n + 1) i)
        ∙ append-nil line in
        ap (λ r. text ++ r) (sym here) ∙ s.same

    pub sofar_end : length rest ≡ 0 → text ≡ continues size says start 1 (end - length all) all
    sofar_end z =
        let here : continues size says c n (end - length rest) rest ≡ [] =
        ap (λ rs. put_to (world c) n (map (and_then reading) rs)) (records_end (end - length rest) rest z) ∙ lines_none (size c.language) (says c.language) kept whole (world c) n in
        sym (append-nil text) ∙ ap (λ r. text ++ r) (sym here) ∙ s.same

    -- the same, in the words of the code: a line is made, read, and pushed behind the text
    pub stop_text : (after line said : List ℕ) (f : Fault) → after ≡ text ++ line → line ≡ said → said ≡ unread n f → f ≡ ill (end - length rest) → 0 < length rest → None ≡ next_command rest
        → after ≡ continues size says start 1 (end - length all) all
    stop_text after line said f p l t e h q = p ∙ sofar_stop line h q (l ∙ t ∙ ap (unread n) e)

    pub more_text : (v more after line said : List ℕ) (d : Cabinet L) → after ≡ text ++ line → line ≡ said → said ≡ writes size says c n v → Some (v, more) ≡ next_command rest → Answers size says c v d
        → Sofar size says start end all d (n + 1) more after
    more_text v more after line said d p l t e a = subst (Sofar size says start end all d (n + 1) more) (sym p) (sofar_more v more line d e a (l ∙ t))
