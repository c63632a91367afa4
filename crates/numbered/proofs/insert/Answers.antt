use Rattle.std.proofs.Common.{◌≡◌, ℕ, ◌-◌, ◌<◌, Bool, true, false, leb, List, length, take, is_some, Option, sym, refl, ap, ◌∙◌, subst, arith}
use Rattle.std.specs.List.{insert}
use Rattle.std.proofs.lemmas.Bool.{lt-leb, le-leb}
use Rattle.numbered.specs.Rows.{place_of, row_of, before, Rises}
use Rattle.numbered.specs.Answers.{answer_to}
use Rattle.numbered.proofs.Moves.{turned_in}
use Rattle.numbered.proofs.Steps.{take_used, used_part, before_le}
use Rattle.numbered.proofs.Laws.{put_is, put_laws, none_from_test, row_test}
use Rattle.numbered.proofs.insert.Goals as goal

-- whether the number is there already, as the code asks it
there : {X : Type 0} (f : X → ℕ) (row : X) (rows : List X) (count used n : ℕ) (o : Option ℕ) (b t : Bool)
    → used ≡ length (take count rows) → n ≡ f row → o ≡ place_of f n (take (used - 0) rows) → b ≡ is_some o → b ≡ t
    → is_some (row_of f (f row) (take count rows)) ≡ t
there f row rows count used n o b t u e p q r =
    let old = take count rows in
    row_test f (f row) 0 old
    ∙ ap (λ m. is_some (place_of f m old)) (sym e)
    ∙ ap (λ xs. is_some (place_of f n xs)) (sym (used_part count used rows u))
    ∙ ap is_some (sym p) ∙ sym q ∙ r

pub returns-then-is_some : goal.returns-then-is_some
returns-then-is_some g c =
    let f = g.T.Numbered.label in
    let rows = c.args.rows.now in
    let count = c.args.count.now in
    let taken = there f c.args.row rows count _ _ _ _ true c.in_use-used.ensures.is c.number-n.ensures c.find.ensures.is c.is_some.ensures c.if-is_some.true in
    record {
      is = ap (λ t. answer_to t (leb (length rows) (length (take count rows)))) (sym taken);
      after = refl {a = take count rows};
      within = λ h. h;
      rises = λ h. h;
      refused = (refl {a = rows}, refl {a = count});
      law = put_laws f c.args.row (take count rows);
    }

pub returns-then-used-rows : goal.returns-then-used-rows
returns-then-used-rows g c =
    let f = g.T.Numbered.label in
    let rows = c.args.rows.now in
    let count = c.args.count.now in
    let free = there f c.args.row rows count _ _ _ _ false c.in_use-used.ensures.is c.number-n.ensures c.find.ensures.is c.is_some.ensures c.if-is_some.false in
    let full : leb (length rows) (length (take count rows)) ≡ true = le-leb _ _ (omega arith) in
    record {
      is = λ i. answer_to (sym free i) (sym full i);
      after = refl {a = take count rows};
      within = λ h. h;
      rises = λ h. h;
      refused = (refl {a = rows}, refl {a = count});
      law = put_laws f c.args.row (take count rows);
    }

pub returns : goal.returns
returns g c =
    let f = g.T.Numbered.label in
    let row = c.args.row in
    let rows = c.args.rows.now in
    let count = c.args.count.now in
    let old = take count rows in
    let used = c.in_use-used.result in
    let used-is = c.in_use-used.ensures.is in
    let free = there f row rows count _ _ _ _ false used-is c.number-n.ensures c.find.ensures.is c.is_some.ensures c.if-is_some.false in
    let room : used < length rows = omega (arith, c.in_use-used.ensures.within, c.if-used-rows.false) in
    let at-is : c.rank-at.result ≡ before f (f row) old =
    c.rank-at.ensures.is ∙ ap (λ n. before f n (take (used - 0) rows)) c.number-n.ensures ∙ ap (before f (f row)) (used_part count used rows used-is) in
    let same : take used rows ≡ old = ap (λ k. take k rows) used-is ∙ take_used count rows in
    let moved = turned_in rows c.last_to_front.new.rows used c.rank-at.result row (omega (arith, at-is, before_le f (f row) old)) room c.last_to_front.ensures in
    let is_put = moved ∙ ap (λ xs. insert xs c.rank-at.result row) same ∙ ap (λ k. insert old k row) at-is ∙ sym (put_is f row old) in
    let laws = put_laws f row old in
    record {
      is = λ i. answer_to (sym free i) (sym (lt-leb (length rows) (length old) (omega arith)) i);
      after = is_put;
      within = λ h. omega arith;
      rises = λ h. subst (Rises f) (sym is_put) (laws.rises h (none_from_test _ free));
      refused = tt;
      law = laws;
    }
