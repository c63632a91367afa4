-- One row turned into its place, or out to the end.
use Rattle.std.proofs.Common.{◌≡◌, ℕ, suc, ◌+◌, ◌-◌, ◌<◌, ◌≤◌, List, [], ◌∷◌, ◌++◌, length, get_or, take, drop, set, sym, refl, ap, ◌∙◌, arith}
use borrow.Rule.Slice.PartMut.{put_mid}
use Rattle.std.proofs.lemmas.List.{drop_more, drop_at, take_at, take-take, take-set, take-set-le, get_or-set_same, length-set, length-take-le, length-drop, length-append, append_assoc}
use Rattle.std.proofs.lemmas.List.Edits.{between_more}
use Rattle.std.proofs.lemmas.Slice.{between_is, take-put_mid}
use Rattle.std.specs.List.{insert, between}

module _ {X : Type 0} where
  pub turned_in : (xs part : List X) (count at : ℕ) (x : X) → at ≤ count → count < length xs
      → part ≡ drop (length (between at (count + 1) (set xs count x)) - 1) (between at (count + 1) (set xs count x)) ++ take (length (between at (count + 1) (set xs count x)) - 1) (between at (count + 1) (set xs count x))
      → take (count + 1) (put_mid at (count + 1 - at) (set xs count x) part) ≡ insert (take count xs) at x
  turned_in xs part count at x le lt e =
      let q : List X = drop at (take count xs) in
      let long : count < length (set xs count x) = simp length-set lt in
      let long-take : length (take count xs) ≡ count = length-take-le count xs (omega arith) in
      let long-q : length q ≡ count - at = simp length-drop (omega arith) in
      let whole : between at (count + 1) (set xs count x) ≡ q ++ (x ∷ []) =
      between_more (set xs count x) at count x le long
      ∙ ap (λ z. between at count (set xs count x) ++ (z ∷ [])) (get_or-set_same xs count x x lt)
      ∙ ap (λ z. z ++ (x ∷ [])) (between_is (set xs count x) at count ∙ ap (drop at) (take-set xs count x)) in
      let n : length (q ++ (x ∷ [])) - 1 ≡ length q = simp length-append (omega arith) in
      let is-part : part ≡ (x ∷ []) ++ q =
      e ∙ ap (λ z. drop (length z - 1) z ++ take (length z - 1) z) whole
      ∙ ap (λ m. drop m (q ++ (x ∷ [])) ++ take m (q ++ (x ∷ []))) n
      ∙ ap (λ z. z ++ take (length q) (q ++ (x ∷ []))) (drop_at q (x ∷ []) (length q) refl)
      ∙ ap (λ z. (x ∷ []) ++ z) (take_at q (x ∷ []) (length q) refl) in
      let long-part : length part ≡ suc (length q) = ap length is-part in
      take-put_mid at (count + 1 - at) (set xs count x) part (count + 1) (omega arith) (omega arith)
      ∙ ap (λ z. z ++ part) (take-set-le at xs count x le ∙ sym (take-take at count xs le))
      ∙ ap (λ z. take at (take count xs) ++ z) is-part

  list_head : (xs : List X) (at : ℕ) → at < length xs → (x : X) × (drop at xs ≡ x ∷ drop (at + 1) xs)
  list_head [] at lt = absurd (omega arith)
  list_head (x ∷ xs) at lt = (get_or (x ∷ xs) at x, drop_more (x ∷ xs) at x lt)

  turn_out : (xs part back : List X) (count at : ℕ) → (x : X) × (drop at (take count xs) ≡ x ∷ back) → at < count → count ≤ length xs
      → length back ≡ count - (at + 1) → part ≡ drop 1 (between at count xs) ++ take 1 (between at count xs)
      → take (count - 1) (put_mid at (count - at) xs part) ≡ take at (take count xs) ++ back
  turn_out xs part back count at h lt le long e =
      let post : List X = drop (count - at) (drop at xs) in
      let is-part : part ≡ back ++ (h.0 ∷ []) = e ∙ ap (λ z. drop 1 z ++ take 1 z) (between_is xs at count ∙ h.1) in
      let front : length (take at xs ++ back) ≡ count - 1 = simp length-append (omega (arith, length-take-le at xs (omega arith))) in
      let shape : take at xs ++ (part ++ post) ≡ (take at xs ++ back) ++ ((h.0 ∷ []) ++ post) =
      ap (λ z. take at xs ++ (z ++ post)) is-part ∙ ap (λ z. take at xs ++ z) (append_assoc back (h.0 ∷ []) post) ∙ sym (append_assoc (take at xs) back ((h.0 ∷ []) ++ post)) in
      ap (take (count - 1)) shape ∙ take_at (take at xs ++ back) ((h.0 ∷ []) ++ post) (count - 1) front
      ∙ ap (λ z. z ++ back) (sym (take-take at count xs (omega arith)))

  pub turned_out : (xs part : List X) (count at : ℕ) → at < count → count ≤ length xs
      → part ≡ drop 1 (between at count xs) ++ take 1 (between at count xs)
      → take (count - 1) (put_mid at (count - at) xs part) ≡ take at (take count xs) ++ drop (at + 1) (take count xs)
  turned_out xs part count at lt le e =
      let kept : List X = take count xs in
      let long_kept : length kept ≡ count = length-take-le count xs le in
      let back : List X = drop (at + 1) kept in
      let long-back : length back ≡ count - (at + 1) = simp length-drop (omega arith) in
      turn_out xs part back count at (list_head kept at (omega arith)) lt le long-back e
