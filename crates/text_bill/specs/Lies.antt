-- Bits that lie within a list of bytes, and whose end is a number that a position can hold.
use Rattle.std.specs.Prelude.{List, ℕ, ◌+◌, ◌*◌, ◌^◌, ◌≤◌, length}

pub record Lies (xs : List ℕ) (p w : ℕ) : Type 0 where
  pub within : p + w ≤ 8 * length xs
  pub small : p + w ≤ 2 ^ 60
