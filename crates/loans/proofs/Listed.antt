-- The hooks as a list of 32, and one of them changed.
use Rattle.std.proofs.Common.{◌≡◌, ℕ, ◌<◌, eqb, length, get_or, set, sym, refl, ap, ◌∙◌, ⊎_elim, arith}
use Rattle.std.proofs.lemmas.List.FromFn.{length-map-range_with_len, get_or-map-range_with_len, fill_by_all}
use Rattle.std.proofs.lemmas.List.{length-set, get_or-set_same, get_or-set_other, get_or_past}
use Rattle.std.proofs.lemmas.Bool.{cases_eq, cases_lt, cond-true, cond-false, eq-eqb, ne_eqb}
use Rattle.numbered.proofs.Laws.{none_above}
use Rattle.loans.specs.declared.state.HookState.{HookState}
use Rattle.loans.specs.declared.state.HookState.TheVariants.{In}
use Rattle.loans.specs.declared.table.Loans.{Loans}
use Rattle.loans.specs.Hooks.{hook_of, loans_in, state_by, state_of, hooks, Moved, Only}

-- the state of a hook, from the list; past the last hook no key is promised or out
pub listed : (ls : Loans) (h : ℕ) → state_of ls h ≡ get_or (hooks ls) h In
listed ls h =
    ⊎_elim
    (λ lt. sym (get_or-map-range_with_len (state_of ls) 0 32 h h In lt (omega arith)))
    (λ le. ap state_by (none_above hook_of h 32 (loans_in ls) ls.below le) ∙ sym (get_or_past (hooks ls) h In (omega (arith, length-map-range_with_len (state_of ls) 0 32))))
    (cases_lt h 32)

module _ (before after : Loans) (h : ℕ) (s : HookState) (only : Only before h s after) where
  here : state_of after h ≡ s
  here = only h ∙ cond-true (eqb h h) s (state_of before h) (eq-eqb h h refl)

  others : (k : ℕ) → (h ≡ k → ⊥) → state_of after k ≡ state_of before k
  others k ne = only k ∙ cond-false (eqb h k) s (state_of before k) (ne_eqb h k ne)

  long : length (hooks before) ≡ 32
  long = length-map-range_with_len (state_of before) 0 32

  at : (k : ℕ) → k < 32 → get_or (set (hooks before) h s) k In ≡ state_of after k
  at k lt =
      ⊎_elim
      (λ e.
      ap (λ j. get_or (set (hooks before) j s) k In) e ∙ get_or-set_same (hooks before) k s In (omega (arith, long))
      ∙ sym here ∙ ap (state_of after) e)
      (λ ne. get_or-set_other (hooks before) h k s In (λ e. ne (sym e)) ∙ get_or-map-range_with_len (state_of before) 0 32 k k In lt (omega arith) ∙ sym (others k ne))
      (cases_eq h k)

  pub moved : Moved before h s after
  moved = record { here = here; others = others; list = sym (fill_by_all (state_of after) (set (hooks before) h s) 32 In (length-set (hooks before) h s ∙ long) at) }
