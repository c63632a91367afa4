use Rattle.std.proofs.Common.{◌≡◌, ℕ, ◌+◌, ◌<◌, ◌≤◌, Bool, not, ◌&&◌, List, [], length, get_or, sym, ap, ◌∙◌, subst, arith}
use Rattle.std.proofs.lemmas.List.{length-take}
use Rattle.states.specs.States.{kept}
use Rattle.numbered.specs.Rows.{without}
use Rattle.grants.specs.declared.Grant.{Grant}
use Rattle.grants.specs.Blank.{blank}
use Rattle.paths.specs.Sets.{member}
use Rattle.register.specs.Held.{held, numbers}
use Rattle.plain.specs.Record.{World, Orphaned, stands_on, with_grants, whole}
use Rattle.plain.proofs.Swept.{orphans_once}
use Rattle.ledger.specs.Ledgers.{world_with, stands_in}
use Rattle.ledger.specs.Sweeps.{place_before, is_orphan, orphans_from, settled}
use Rattle.ledger.proofs.Orphans.{orphans_rows, was_at}
use Rattle.ledger.proofs.Sweeping.{stay_standing}
use Rattle.ledger.proofs.held.Ledger.end.Goals as goal

pub returns : goal.returns
returns g c =
    let size = g.L.Language.size c.args.language.now in
    let says = g.L.Language.says c.args.language.now in
    let l = c.args.self.now in
    let n = c.args.number in
    let r = held l.grants in
    let q = without numbers n r in
    let m = c.take_out.new.self in
    let before = c.standing-before.result in
    let after = c.standing-after.result in
    let gone = c.unwrap_or-gone.result in
    let out = c.take_out.ensures in
    let rows : held m.grants ≡ q = ap (λ (w : World). w.grants) (out []) in
    let few : length r ≤ 96 = omega (arith, length-take l.grants.count l.grants.rows, l.grants.within) in
    let test : Grant → Bool = λ k. stands_in size says l k && not (stands_on size says kept whole (world_with l []) q k) in
    let places : (k j : ℕ) → j ≡ 0 + k → k < length q → is_orphan before gone after j ≡ test (get_or q k blank) =
    λ k j e lt.
    let same : k ≡ j = omega arith in
    let was = was_at n r few c.find.result k c.find.ensures.is c.find.ensures.within lt in
    let pb = ap (λ x. place_before x k) c.unwrap_or-gone.ensures in
    let old : member before (place_before gone k) ≡ stands_in size says l (get_or q k blank) = ap (member before) pb ∙ c.standing-before.ensures _ was.1 ∙ ap (stands_in size says l) (sym was.0) in
    let new : member after k ≡ stands_on size says kept whole (world_with l []) q (get_or q k blank) =
    c.standing-after.ensures k (subst (λ (gs : List Grant). k < length gs) (sym rows) lt)
    ∙ ap (λ (w : World). stands_on size says kept whole w w.grants (get_or w.grants k blank)) (out []) in
    subst (λ x. is_orphan before gone after x ≡ test (get_or q k blank)) same (λ i. old i && not (new i)) in
    let lost = c.orphans-lost.ensures ∙ ap (λ (gs : List Grant). orphans_from (is_orphan before gone after) 0 (length gs)) (c.rows.ensures ∙ rows) ∙ orphans_rows test (is_orphan before gone after) 0 q places in
    record {
      is = λ hs. ap (λ x. Orphaned x) (lost ∙ sym (orphans_once size says kept whole (world_with l hs) n));
      after = λ hs. c.sweep.ensures hs ∙ ap (with_grants (world_with m hs) m.last) (stay_standing size says m after c.standing-after.ensures) ∙ ap (settled size says) (out hs);
    }
