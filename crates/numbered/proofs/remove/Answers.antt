use Rattle.std.proofs.Common.{◌≡◌, ℕ, ◌+◌, ◌-◌, ◌<◌, List, ◌++◌, length, get_or, take, drop, Some, None, Option, sym, refl, ap, ◌∙◌, subst, add-one, arith, get_or-take}
use Rattle.std.proofs.lemmas.List.{length-take}
use Rattle.std.specs.List.{remove}
use Rattle.numbered.specs.Rows.{place_of, Rises}
use Rattle.numbered.proofs.Moves.{turned_out}
use Rattle.numbered.proofs.Steps.{take_used, used_part}
use Rattle.numbered.proofs.Laws.{row_at, row_none, without_none, without_laws}
use Rattle.numbered.proofs.remove.Goals as goal

-- the place that the search found, in the rows in use
place_is : {X : Type 0} (f : X → ℕ) (rows : List X) (count used n : ℕ) (found o : Option ℕ)
    → used ≡ length (take count rows) → found ≡ place_of f n (take (used - 0) rows) → found ≡ o → place_of f n (take count rows) ≡ o
place_is f rows count used n found o u p e = sym (p ∙ ap (place_of f n) (used_part count used rows u)) ∙ e

pub returns-in_err-at : goal.returns-in_err-at
returns-in_err-at g c =
    let f = g.T.Numbered.label in
    let n = c.args.n in
    let rows = c.args.rows.now in
    let count = c.args.count.now in
    let old = take count rows in
    let gone = row_none f n 0 old (place_is f rows count _ n _ None c.in_use-used.ensures.is c.find.ensures.is c.in_err-at.was) in
    record {
      is = c.from_residual.ensures ∙ sym gone;
      after = sym (without_none f n old gone);
      within = λ h. h;
      rises = λ h. h;
      refused = rw c.from_residual.ensures (refl, refl);
      law = without_laws f n old;
    }

pub returns : goal.returns
returns g c =
    let f = g.T.Numbered.label in
    let n = c.args.n in
    let rows = c.args.rows.now in
    let count = c.args.count.now in
    let old = take count rows in
    let used = c.in_use-used.result in
    let used-is = c.in_use-used.ensures.is in
    let at = c.in_ok-at.at in
    let row = c.index-rows-at.result in
    let q = row_at f n 0 at old row (place_is f rows count used n _ (Some at) used-is c.find.ensures.is c.in_ok-at.was) in
    let at-is : q.0 ≡ at = omega (arith, q.1) in
    let below : at < used = omega (arith, c.in_ok-at.ensures.within, length-take (used - 0) rows) in
    let inside : at < count = omega (arith, length-take count rows) in
    let same : take used rows ≡ old = ap (λ k. take k rows) used-is ∙ take_used count rows in
    let moved = turned_out rows c.front_to_last.new.rows used at below c.in_use-used.ensures.within c.front_to_last.ensures in
    let is-without =
    moved ∙ ap (λ xs. take at xs ++ drop (at + 1) xs) same ∙ ap (λ k. take at old ++ drop k old) (add-one at) ∙ sym (q.3 ∙ ap (remove old) at-is) in
    let laws = without_laws f n old in
    record {
      is = ap (λ x. Some x) (c.index-rows-at.is ∙ sym (get_or-take count rows at row inside) ∙ ap (λ k. get_or old k row) (sym at-is)) ∙ sym q.2;
      after = is-without;
      within = λ h. omega arith;
      rises = λ h. subst (Rises f) (sym is-without) (laws.rises h);
      refused = tt;
      law = laws;
    }
