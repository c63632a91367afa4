-- An accepted amendment's grant stands on the record that it leaves.
use Rattle.std.proofs.Common.{◌≡◌, ℕ, [], ◌∷◌, ◌++◌, sym, refl, ap, subst, inl}
use Rattle.std.proofs.lemmas.Bool.{not-false}
use Rattle.states.specs.declared.state.State.{State}
use Rattle.grants.specs.declared.Grant.{Grant}
use Rattle.conditions.specs.declared.truth.Truth.{Truth}
use Rattle.numbered.specs.Rows.{without}
use Rattle.chains.specs.Lists.{In}
use Rattle.chains.specs.Chains.{Stands}
use Rattle.chains.proofs.Lists.{all_in, in_left, in_right}
use Rattle.chains.proofs.Sound.{decides_stands}
use Rattle.chains.proofs.Standing.{chain_on, not_own, same_standing}
use Rattle.plain.specs.Record.{World, Call, Amend, Answer, checks, done, run, new, owner, seen, stands_on, swept, number_of, amended}
use Rattle.plain.specs.Laws.{AmendedStands}
use Rattle.plain.proofs.Checked.{off, is_refusal, accepted}
use Rattle.plain.proofs.Runs.{fine_run, fine_new, others_stay}
use Rattle.plain.proofs.Swept.{swept_rid}

pub amended_stands : (size : ℕ) (means : ℕ → State → Truth) (put see : ℕ → State → State) → AmendedStands size means put see
amended_stands size means put see past caller n terms e =
    let w = run size means put see new past in
    let f = fine_run size means put see past new fine_new in
    let k : Call = Amend caller n terms in
    let st = seen size means put see w in
    let g = amended size means put see w caller n terms in
    let a = accepted w (checks size means put see w k) (done size means put see w k) (ap is_refusal e) in
    let here = off _ _ a.0.1.1.1.1.0 in
    let mine = off _ _ a.0.1.1.1.1.1.0 in
    let j = (decides_stands means st w.grants (owner w) g).0 (not-false (stands_on size means put see w w.grants g) (off _ _ a.0.1.1.1.1.1.1.1.0)) in
    let rest = without number_of n w.grants in
    let r = rest ++ (g ∷ []) in
    let c = j.0 in
    let none = not_own w.grants g.hook (owner w g.hook) c caller j.1.0 in
    let rid = swept_rid size means put see w r in
    let t : Stands means st r (owner w) g =
    (c, (chain_on w.grants r g.hook (owner w g.hook) c caller (λ b i l. in_left b rest (g ∷ []) (others_stay w.grants n caller f.rising here mine b l (all_in (λ (b : Grant). b.grantor ≡ caller → ⊥) c none b i))) j.1.0, j.1.1, j.1.2)) in
    let P : World → Type 0 = λ v. In g v.grants × Stands means (seen size means put see v) v.grants (owner v) g in
    subst P (sym (ap (λ (u : World × Answer). u.0) a.1))
    (rid.keeps g (in_right g rest (g ∷ []) (inl refl)) t, (same_standing means st (owner w) r (swept size means put see w r) rid g).0 t)
