use Rattle.std.proofs.Common.{◌≡◌, ℕ, ◌<◌, ◌&&◌, eqb, ltb, length, get_or, sym, ap, ◌∙◌, subst, ⊎_elim}
use Rattle.conditions.specs.Truths.{is_true}
use Rattle.std.proofs.lemmas.Bool.{and_parts, eqb-true, cases_lt, lt-ltb, le-ltb, and_left}
use Rattle.chains.specs.declared.chain.Which.TheVariants.{Onward}
use Rattle.chains.specs.Search.{stands as stands_on}
use Rattle.chains.specs.Laws.{recorded}
use Rattle.places.specs.Sets.{member}
use Rattle.search.specs.Records.{at}
use Rattle.search.specs.Asked.{Linked}
use Rattle.search.proofs.Found.{fits, stands_is}
use Rattle.search.proofs.record.Record.standing.Goals as goal

pub returns : goal.returns
returns g c i =
    let m = g.L.Language.says c.args.language.now in
    let r = c.args.self.now.grants.now in
    let l = c.new-plan.result.links in
    let own : ℕ → ℕ = λ h. get_or c.args.owners.now h 0 in
    let columns = c.columns-columns.result in
    let linked : Linked r columns l = subst (Linked r columns) (sym c.new-plan.ensures) c.links.ensures in
    let X = stands_on m recorded r own (at r i) in
    let found : i < length r → member c.reached_places.result i ≡ X =
    λ lt.
    let fit = fits m r l columns c.all.result (get_or columns i 0) (at r i).hook (own (at r i).hook) Onward (at r i).state linked c.columns-columns.ensures (c.columns-columns.ensures i lt (c.all.ensures i lt)) (λ k lk _. c.all.ensures k lk) in
    stands_is m r l (get_or columns i 0) own (at r i) fit (member c.reached_places.result i) (c.reached_places.ensures.0 i lt) in
    ⊎_elim
    (λ lt. found lt ∙ sym (ap (λ b. b && X) (lt-ltb i (length r) lt)))
    (λ le. c.reached_places.ensures.1 i le ∙ sym (and_left (ltb i (length r)) X (le-ltb i (length r) le)))
    (cases_lt i (length r))

pub reached_places-requires : goal.reached_places-requires
reached_places-requires g c =
    let m = g.L.Language.says c.args.language.now in
    let r = c.args.self.now.grants.now in
    let columns = c.columns-columns.result in
    record {
      linked = subst (Linked r columns) (sym c.new-plan.ensures) c.links.ensures;
      hooks = λ i k li lk e.
          eqb-true (at r k).hook (at r i).hook (and_parts (eqb (at r k).hook (at r i).hook) (is_true (m (at r k).onward (at r i).state)) (sym (c.columns-columns.ensures i li (c.all.ensures i li) k lk) ∙ e)).0;
    }
