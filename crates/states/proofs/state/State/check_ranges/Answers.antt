use Rattle.std.proofs.Common.{◌≡◌, ◌<◌, ℕ, true, false, Some, None, Err, sym, ap, ◌∙◌, arith, rules}
use Rattle.std.proofs.lemmas.Iterator.{first_from_Range}
use Rattle.states.specs.Ranges.{out_at}
use Rattle.states.proofs.Checks.{passed, refused, in_at, out_at_lem, all_in}
use Rattle.states.proofs.state.State.check_ranges.Goals as goal

pub returns-in-Some : goal.returns-in-Some
returns-in-Some c =
    let s = c.args.self.now in
    let first = first_from_Range _ _ _ (Some c.in-Some.v) (λ v. out_at s v ≡ true) (λ v. out_at s v ≡ false) c.in-Some.ensures.ran (λ v q k. search rules) (λ v q k. search rules) in
    let v = c.in-Some.v in
    let before : (k : ℕ) → k < v → out_at s k ≡ false = λ k h. first.3 k (omega arith) h in
    record {
      is = ap (λ e. Err e) c.at.ensures ∙ sym (refused s v first.1 first.2 before);
      law = (v, c.at.ensures, first.1, out_at_lem s v first.2, λ u h. in_at s u (before u h));
    }

pub returns-in-None : goal.returns-in-None
returns-in-None c =
    let s = c.args.self.now in
    let inside = first_from_Range _ _ _ None (λ v. out_at s v ≡ true) (λ v. out_at s v ≡ false) c.in-None.ensures.ran (λ v q k. search rules) (λ v q k. search rules) in
    let all : (k : ℕ) → k < 8 → out_at s k ≡ false = λ k h. inside k (omega arith) h in
    record { is = sym (passed s 8 (omega arith) all); law = all_in s all }
