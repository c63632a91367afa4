use Rattle.std.proofs.Common.{sym, refl, subst}
use Rattle.worked.specs.Site.{site_book}
use Rattle.worked.specs.Cases.{Worked}
use Rattle.worked.proofs.site_book.Goals as goal

worked : Worked site_book
worked = record {
  book = refl;
  owner_draws = refl;
  window = refl;
  loop_stands = refl;
  loop_falls = refl;
  second_grant_keeps = refl;
  eight_in_a_row = refl;
  unknown_time = refl;
  unknown_time_denied = refl;
  midnight_grant = refl;
  office_hours_grant = refl;
  session_returns = refl;
  session_expires = refl;
}

pub returns : goal.returns
returns c = record { is = c.three_conditions.ensures; cases = subst Worked (sym c.three_conditions.ensures) worked }
