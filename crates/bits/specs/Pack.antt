-- What the bytes of a table of values are: the values' bits in order, packed eight to a byte.
use Rattle.std.specs.Prelude.{List, [], ◌∷◌, ◌++◌, ℕ, zero, suc, ◌+◌, ◌-◌, ◌*◌, ◌/◌, ◌%◌, ◌^◌, length, get_or}
use Rattle.bits.specs.Bits.{number, field_at}
use Rattle.bits.specs.Table.{total}

-- the w bits of v, the highest first
unfoldable pub bits_of : ℕ → ℕ → List ℕ
bits_of zero v = []
bits_of (suc w) v = (v / 2 ^ w % 2) ∷ bits_of w v

-- the bits of all values, each with as many bits as its width
unfoldable pub spell : List ℕ → List ℕ → List ℕ
spell [] vs = []
spell (w ∷ ws) [] = []
spell (w ∷ ws) (v ∷ vs) = bits_of w v ++ spell ws vs

-- the bytes that n bits take
abbrev pub bytes_for : ℕ → ℕ
bytes_for n = (n + 7) / 8

-- the byte of the eight bits from 8 * i on, zero where the list has ended
unfoldable pub byte_of : List ℕ → ℕ → ℕ
byte_of bits i = number (λ q. get_or bits q 0) (8 * i) 8

-- the first n of these bytes
unfoldable pub bytes_of : List ℕ → ℕ → List ℕ
bytes_of bits zero = []
bytes_of bits (suc n) = bytes_of bits n ++ (byte_of bits n ∷ [])

-- the bits as bytes, zero bits filling the last
unfoldable pub pack : List ℕ → List ℕ
pack bits = bytes_of bits (bytes_for (length bits))

-- the bytes of the values in fields of these widths
unfoldable pub encode : List ℕ → List ℕ → List ℕ
encode ws vs = pack (spell ws vs)

-- what the bits behind the fields spell, up to the end of the last byte that the fields take
abbrev pub filling : List ℕ → List ℕ → ℕ
filling xs ws = field_at xs (total ws) (8 * bytes_for (total ws) - total ws)
