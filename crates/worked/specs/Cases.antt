-- The worked cases, each with what the plain record answers.
use Rattle.std.specs.Prelude.{◌≡◌, ℕ, true, List, [], ◌∷◌, ◌++◌, map, None, Ok}
use Rattle.states.specs.Reports.{state_of}
use Rattle.states.specs.States.{kept}
use Rattle.grants.specs.declared.Mode.{Mode}
use Rattle.grants.specs.declared.Mode.TheVariants.{Expiring, Resting}
use Rattle.conditions.specs.declared.truth.Truth.TheVariants.{True, False, Unknown}
use Rattle.books.specs.Books.{checked, book_says}
use Rattle.plain.specs.Record.{Call, Withdraw, Draw, Take, Leave, Number, Orphaned, Slip, Done, stands_on, whole}
use Rattle.worked.specs.Site.{nothing, at, panel, issue, unjustified, not_in, after, told}

-- 1 grants to 2, 2 to 3 and 3 to 2, with no condition
abbrev pub loop : List Call
loop = issue 1 2 0 0 Resting nothing ∷ issue 2 3 0 0 Resting nothing ∷ issue 3 2 0 0 Resting nothing ∷ []

-- 1 lets 2 grant on in office hours; 2 tries to grant to 3 at 1200, then does at 600; 3 draws and leaves; 1 withdraws; 3 draws;
-- 1 grants to 2 as before; 3 draws. The mode is that of the grant to 3
abbrev pub session : Mode → List Call
session mode =
    issue 1 2 0 2 Resting (at 600) ∷ issue 2 3 0 1 Expiring (at 1200) ∷ issue 2 3 0 1 mode (at 600)
    ∷ Draw 3 0 nothing ∷ Leave 0 3 ∷ Withdraw 1 1 ∷ Draw 3 0 nothing ∷ issue 1 2 0 2 Resting (at 600) ∷ Draw 3 0 nothing ∷ []

pub record Worked (bs : List ℕ) : Type 0 where
  -- the bytes are a book of three conditions
  pub book : checked bs ≡ Ok 3
  -- the owner draws from an empty record, by the empty chain
  pub owner_draws : told bs (Draw 1 0 nothing ∷ []) ≡ Done ∷ Slip 0 1 [] ∷ []
  -- condition 2 is false at 479, true at 480 and 1080, false at 1081, and unknown where TIME is
  pub window : map (λ r. book_says bs 3 2 (state_of 1 None r)) (at 479 ∷ at 480 ∷ at 1080 ∷ at 1081 ∷ nothing ∷ []) ≡ False ∷ True ∷ True ∷ False ∷ Unknown ∷ []
  -- the three grants of the loop all stand, and withdrawing the first takes two others with it
  pub loop_stands : map (stands_on 5 (book_says bs 3) whole kept (after bs loop) (after bs loop).grants) (after bs loop).grants ≡ true ∷ true ∷ true ∷ []
  pub loop_falls : told bs (loop ++ (Withdraw 1 1 ∷ [])) ≡ Done ∷ Number 1 ∷ Number 2 ∷ Number 3 ∷ Orphaned 2 ∷ []
  -- 1 grants to 2 twice, and withdrawing one takes nothing else with it
  pub second_grant_keeps : told bs (issue 1 2 0 0 Resting nothing ∷ issue 1 2 0 0 Resting nothing ∷ Withdraw 1 1 ∷ []) ≡ Done ∷ Number 1 ∷ Number 2 ∷ Orphaned 0 ∷ []
  -- eight grants in a row: the ninth person may draw, and may not grant
  pub eight_in_a_row :
      told bs (issue 1 2 0 0 Resting nothing ∷ issue 2 3 0 0 Resting nothing ∷ issue 3 4 0 0 Resting nothing ∷ issue 4 5 0 0 Resting nothing ∷ issue 5 6 0 0 Resting nothing ∷ issue 6 7 0 0 Resting nothing ∷ issue 7 8 0 0 Resting nothing ∷ issue 8 9 0 0 Resting nothing ∷ Draw 9 0 nothing ∷ issue 9 10 0 0 Resting nothing ∷ [])
      ≡ Done ∷ Number 1 ∷ Number 2 ∷ Number 3 ∷ Number 4 ∷ Number 5 ∷ Number 6 ∷ Number 7 ∷ Number 8 ∷ Slip 0 9 (1 ∷ 2 ∷ 3 ∷ 4 ∷ 5 ∷ 6 ∷ 7 ∷ 8 ∷ []) ∷ unjustified ∷ []
  -- with TIME unknown neither office hours nor their "not" lets 2 grant on
  pub unknown_time : told bs (issue 1 2 0 2 Expiring nothing ∷ issue 2 3 0 1 Expiring nothing ∷ []) ≡ Done ∷ Number 1 ∷ unjustified ∷ []
  pub unknown_time_denied : told bs (issue 1 2 0 3 Expiring nothing ∷ issue 2 3 0 1 Expiring nothing ∷ []) ≡ Done ∷ Number 1 ∷ unjustified ∷ []
  -- two ways to 2: one for the trusted panel, one for granting in office hours. What 2 granted at midnight hangs from the first only;
  -- what 2 granted at 600 hangs from either
  pub midnight_grant :
      told bs (issue 1 2 4 0 Expiring nothing ∷ issue 1 2 0 2 Expiring nothing ∷ issue 2 3 0 0 Expiring (at 0) ∷ Draw 3 0 (panel 0) ∷ Draw 3 0 (panel 1) ∷ [])
      ≡ Done ∷ Number 1 ∷ Number 2 ∷ Number 3 ∷ unjustified ∷ Slip 0 3 (1 ∷ 3 ∷ []) ∷ []
  pub office_hours_grant :
      told bs (issue 1 2 4 0 Expiring nothing ∷ issue 1 2 0 2 Expiring nothing ∷ issue 2 3 0 0 Expiring (at 600) ∷ Draw 3 0 (panel 0) ∷ [])
      ≡ Done ∷ Number 1 ∷ Number 2 ∷ Number 3 ∷ Slip 0 3 (2 ∷ 3 ∷ []) ∷ []
  -- the session, the grant to 3 of mode R: it rests while 1's grant is gone, and stands again; then the key is taken, and not in
  -- for another draw
  pub session_returns :
      told bs (session Resting ++ (Take 0 3 ∷ Draw 3 0 nothing ∷ []))
      ≡ Done ∷ Number 1 ∷ unjustified ∷ Number 2 ∷ Slip 0 3 (1 ∷ 2 ∷ []) ∷ Done ∷ Orphaned 1 ∷ unjustified ∷ Number 3 ∷ Slip 0 3 (3 ∷ 2 ∷ []) ∷ Done ∷ not_in ∷ []
  -- the same session with that grant of mode E: it has left, and 3 stays refused
  pub session_expires :
      told bs (session Expiring)
      ≡ Done ∷ Number 1 ∷ unjustified ∷ Number 2 ∷ Slip 0 3 (1 ∷ 2 ∷ []) ∷ Done ∷ Orphaned 1 ∷ unjustified ∷ Number 3 ∷ unjustified ∷ []
