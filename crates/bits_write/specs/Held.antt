-- What a writer holds back, and what goes out.
use Rattle.std.specs.Prelude.{ℕ, ◌+◌, ◌*◌, ◌^◌, ◌≤◌, ◌<◌, List, ◌≡◌, length, get_or}
use Rattle.bits.specs.Bits.{field_at}

-- less than a word of eight bytes is held back, a number of so many bits
pub record Held (waiting rest : ℕ) : Type 0 where
  pub part : waiting < 64
  pub small : rest < 2 ^ waiting

-- n bytes from a place on are a number's, and those behind them are as they were
pub record Out (old new : List ℕ) (at n v : ℕ) : Type 0 where
  pub long : length new ≡ length old
  pub spells : field_at new 0 (8 * (at + n)) ≡ field_at old 0 (8 * at) * 2 ^ (8 * n) + v
  pub after : (i : ℕ) → at + n ≤ i → get_or new i 0 ≡ get_or old i 0
