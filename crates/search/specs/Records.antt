-- Records that can exist.
use Rattle.std.specs.Prelude.{ℕ, Bool, ◌&&◌, List, length, nat_le, slice_index_or}
use Rattle.grants.specs.declared.Grant.{Grant}
use Rattle.grants.specs.Blank.{blank}
use Rattle.numbered.specs.Rows.{rises_from}

-- the number of a grant, by which a record is ordered
abbrev pub number_of : Grant → ℕ
number_of g = g.number

-- at most 96 grants, whose numbers rise
abbrev pub is_record : List Grant → Bool
is_record r = nat_le (length r) 96 && rises_from number_of 0 r

-- the grant at a place
abbrev pub at : List Grant → ℕ → Grant
at r i = slice_index_or r i blank
