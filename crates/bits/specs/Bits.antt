-- Bits and fields of a list of bytes, the most significant bit of each byte first, and what it means to read a field.
use Rattle.std.specs.Prelude.{◌≡◌, List, ℕ, zero, suc, ◌+◌, ◌-◌, ◌*◌, ◌/◌, ◌%◌, ◌^◌, ◌≤◌, ◌<◌, length, get_or}

-- every element is a byte
abbrev pub Bytes : List ℕ → Type 0
Bytes xs = (i : ℕ) → get_or xs i 0 < 2 ^ 8

-- the bit at position p: in byte p / 8, at place p % 8 from the top
unfoldable pub bit_at : List ℕ → ℕ → ℕ
bit_at xs p = get_or xs (p / 8) 0 / 2 ^ (7 - p % 8) % 2

-- the number that the w bits f p, f (p + 1), .. spell, the first of them the highest
unfoldable pub number : (ℕ → ℕ) → ℕ → ℕ → ℕ
number f p zero = 0
number f p (suc w) = 2 * number f p w + f (p + w)

-- the number that the w bits of a list of bytes spell from position p on
abbrev pub field_at : List ℕ → ℕ → ℕ → ℕ
field_at xs p w = number (bit_at xs) p w

-- a field of 1 to 42 bits that lies within the bytes, and whose end is a number that a position can hold
pub record FieldFits (xs : List ℕ) (p w : ℕ) : Type 0 where
  pub some : 1 ≤ w
  pub narrow : w ≤ 42
  pub within : p + w ≤ 8 * length xs
  pub small : p + w ≤ 2 ^ 60

-- v is the field of w bits at p, and the next field is at e
pub record FieldRead (xs : List ℕ) (p w v e : ℕ) : Type 0 where
  pub value : v ≡ field_at xs p w
  pub next : e ≡ p + w
