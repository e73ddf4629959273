-- Bytes in hexadecimal digits.
use Rattle.std.specs.Prelude.{ℕ, zero, suc, ◌+◌, ◌-◌, ◌*◌, cond, List, [], ◌∷◌, ◌++◌, ltb, get_or}

-- the value of a character 0 to 9 or a to f, and 0 of any other
unfoldable pub digit : ℕ → ℕ
digit b = cond (ltb b 48) 0 (cond (ltb b 58) (b - 48) (cond (ltb b 97) 0 (cond (ltb b 103) (b - 87) 0)))

-- the bytes that the first n pairs of hexadecimal digits spell
unfoldable pub pairs : List ℕ → ℕ → List ℕ
pairs s zero = []
pairs s (suc n) = pairs s n ++ ((16 * digit (get_or s (2 * n) 0) + digit (get_or s (2 * n + 1) 0)) ∷ [])
