-- What a program has done that ends well.
use Rattle.std.specs.Prelude.{ℕ, ◌≤◌, List, length, Ok, Result}
use Rattle.std.specs.Borrow.{Bor}

-- a text was made of the first bytes of a file: of 65,535 bytes at the most
abbrev pub MakesOfFront : {G S E : Type 0} → (G → Bor (List ℕ) → Result S E → Type 0) → Type 0
MakesOfFront {G} {S} post = (heap : G) × (front : Bor (List ℕ)) × (text : S) × (length front.now ≤ 65535) × post heap front (Ok text)
