-- A layout as a table of widths, and the numbers that fields of these widths spell, one right after another.
use Rattle.std.specs.Prelude.{List, [], ◌∷◌, ◌++◌, Bool, true, ◌&&◌, ℕ, zero, suc, ◌+◌, ◌*◌, ◌%◌, ◌^◌, ◌≤◌, ◌<◌, T, leb, length, take, drop}
use Rattle.bits.specs.Bits.{field_at}

-- how many bits the widths take
abbrev pub total : List ℕ → ℕ
total [] = 0
total (w ∷ ws) = w + total ws

-- a list n times over: the widths of n items, each with fields of the same widths
unfoldable pub times : {A : Type 0} → ℕ → List A → List A
times zero xs = []
times (suc n) xs = xs ++ times n xs

-- what the fields from p on spell
abbrev pub fields_at : List ℕ → ℕ → List ℕ → List ℕ
fields_at xs p [] = []
fields_at xs p (w ∷ ws) = field_at xs p w ∷ fields_at xs (p + w) ws

-- values laid over a list from a place on
abbrev pub laid : ℕ → List ℕ → List ℕ → List ℕ
laid to vs old = (take to old ++ vs) ++ drop (to + length vs) old

-- each value has no more bits than its width
abbrev pub Valid : List ℕ → List ℕ → Type 0
Valid [] vs = Unit
Valid (w ∷ ws) [] = Unit
Valid (w ∷ ws) (v ∷ vs) = (v < 2 ^ w) × Valid ws vs

-- each width is from 1 to 42
abbrev pub narrow : List ℕ → Bool
narrow [] = true
narrow (w ∷ ws) = (leb 1 w && leb w 42) && narrow ws

-- fields of these widths lie within the bytes, from p on
pub record Fit (xs : List ℕ) (p : ℕ) (ws : List ℕ) : Type 0 where
  pub narrows : T (narrow ws)
  pub within : p + total ws ≤ 8 * length xs
  pub small : p + total ws ≤ 2 ^ 60

-- fields of these widths begin within the bytes, at p, and end within eight bytes from the first of theirs on
pub record InWord (xs : List ℕ) (p : ℕ) (ws : List ℕ) : Type 0 where
  pub narrows : T (narrow ws)
  pub begins : p < 8 * length xs
  pub ends : p % 8 + total ws ≤ 64
  pub small : p + total ws ≤ 2 ^ 60
