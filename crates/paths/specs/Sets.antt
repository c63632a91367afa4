-- A set of places as a number.
pub use Rattle.places.specs.Sets.{member}
