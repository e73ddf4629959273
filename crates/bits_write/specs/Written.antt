-- What a writer writes: a number bit by bit, its whole words to a list of bytes, and the bits behind them held back.
use Rattle.std.specs.Prelude.{◌≡◌, List, [], ◌∷◌, ℕ, ◌+◌, ◌-◌, ◌*◌, ◌^◌, ◌≤◌, length, get_or}
use Rattle.bits_write.specs.declared.Writer.{Writer}
use Rattle.bits.specs.Bits.{field_at}
use Rattle.bits.specs.Table.{total, times}
use Rattle.bits.specs.Pack.{bytes_for}

-- the values' bits one after another, as one number
unfoldable pub joined : List ℕ → List ℕ → ℕ
joined [] vs = 0
joined (w ∷ ws) [] = 0
joined (w ∷ ws) (v ∷ vs) = v * 2 ^ total ws + joined ws vs

-- how many bits a writer has written, and the number that they spell
abbrev pub written_bits : Writer → ℕ
written_bits p = 8 * p.at + p.waiting

abbrev pub written : List ℕ → Writer → ℕ
written xs p = field_at xs 0 (8 * p.at) * 2 ^ p.waiting + p.rest

-- the writer p has gone on to q, by the w bits of v; the bytes from its next one on are as they were
pub record Wrote (old new : List ℕ) (p q : Writer) (w v : ℕ) : Type 0 where
  pub long : length new ≡ length old
  pub onward : p.at ≤ q.at
  pub ends : written_bits q ≡ written_bits p + w
  pub spells : written new q ≡ written old p * 2 ^ w + v
  pub after : (i : ℕ) → q.at ≤ i → get_or new i 0 ≡ get_or old i 0

-- it has gone on by values in fields of these widths, and by those of n items with such fields
abbrev pub PutAll : List ℕ → List ℕ → Writer → Writer → List ℕ → List ℕ → Type 0
PutAll old new p q ws vs = Wrote old new p q (total ws) (joined ws vs)

abbrev pub PutItems : List ℕ → List ℕ → Writer → Writer → ℕ → List ℕ → List ℕ → Type 0
PutItems old new p q n ws vs = PutAll old new p q (times n ws) vs

-- the writer's bits and zero bits behind them fill so many bytes
pub record Finished (old new : List ℕ) (p : Writer) (size : ℕ) : Type 0 where
  pub long : length new ≡ length old
  pub ends : size ≡ bytes_for (written_bits p)
  pub spells : field_at new 0 (8 * size) ≡ written old p * 2 ^ (8 * size - written_bits p)
  pub after : (i : ℕ) → size ≤ i → get_or new i 0 ≡ get_or old i 0
