-- A book is a lawful language: a tree's meaning is steady.
use Rattle.std.specs.Prelude.{ℕ, ◌+◌, List, Some, None, Option, refl}
use Rattle.states.specs.declared.state.State.{State}
use Rattle.states.specs.States.{known, ToldMore}
use Rattle.conditions.specs.Laws.{Stays, Lawful}
use Rattle.conditions.specs.OwnLaws.{own_lawful}
use Rattle.conditions.specs.Steady.{conj_steady, disj_steady, neg_steady, test_steady}
use Rattle.conditions.specs.Truths.{within}
use Rattle.books.specs.Books.{Formed, condition_bytes, book_says}
use Rattle.books.specs.Trees.{Tree, range, group, both, either, negated, member, meaning}
use Rattle.books.specs.Readings.{tree, truth_of}

meaning_steady : (e : Tree) (s t : State) → ToldMore s t → Stays (meaning e s) (meaning e t)
meaning_steady (range v lo hi) s t m = test_steady (λ o. within o lo hi) refl (known s v) (known t v) (m v)
meaning_steady (group n) s t m = test_steady (λ o. member o n) refl (known s 4) (known t 4) (m 4)
meaning_steady (both a b) s t m = conj_steady _ _ _ _ (meaning_steady a s t m) (meaning_steady b s t m)
meaning_steady (either a b) s t m = disj_steady _ _ _ _ (meaning_steady a s t m) (meaning_steady b s t m)
meaning_steady (negated a) s t m = neg_steady _ _ (meaning_steady a s t m)

truth_steady : (o : Option Tree) (s t : State) → ToldMore s t → Stays (truth_of o s) (truth_of o t)
truth_steady None s t m = tt
truth_steady (Some e) s t m = meaning_steady e s t m

pub book_lawful : (bs : List ℕ) (count : ℕ) → Formed bs count → Lawful (count + 2) (book_says bs count)
book_lawful bs count formed =
    own_lawful count (λ k s. truth_of (tree (condition_bytes bs k)) s) formed.0 (λ k s t m. truth_steady (tree (condition_bytes bs k)) s t m)
