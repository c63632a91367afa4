-- The grant that fills the unused places of a table.
use Rattle.std.specs.Prelude.{replicate, None}
use Rattle.grants.specs.declared.Mode.TheVariants.{Expiring}
use Rattle.grants.specs.declared.Grant.{Grant}

-- number 0 is given to no grant on record
abbrev pub blank : Grant
blank = record { number = 0; hook = 0; grantor = 0; grantee = 0; execute = 0; onward = 0; mode = Expiring; state = record { values = replicate 8 None } }
