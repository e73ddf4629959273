-- Lines of text: numbers in decimal, bytes in hexadecimal, with spaces between.
use Rattle.std.specs.Prelude.{ℕ, zero, suc, ◌+◌, ◌/◌, ◌%◌, cond, List, [], ◌∷◌, ◌++◌, ltb}

-- the digits of n in decimal, at most so many, the first of them the highest
unfoldable pub digits_to : ℕ → ℕ → List ℕ
digits_to zero n = []
digits_to (suc m) n = cond (ltb n 10) [] (digits_to m (n / 10)) ++ ((48 + n % 10) ∷ [])

-- a number below 10 ^ 20 in decimal
unfoldable pub decimal : ℕ → List ℕ
decimal n = digits_to 20 n

-- a space before each word of a line but the first
abbrev pub word : List ℕ → List ℕ
word text = 32 ∷ text

-- the texts of some numbers, one after another
unfoldable pub each : (ℕ → List ℕ) → List ℕ → List ℕ
each text [] = []
each text (n ∷ ns) = text n ++ each text ns

-- numbers with a space between them
unfoldable pub numbers_line : List ℕ → List ℕ
numbers_line [] = 10 ∷ []
numbers_line (n ∷ ns) = decimal n ++ (each (λ m. word (decimal m)) ns ++ (10 ∷ []))

-- the hexadecimal digit with a value below 16
unfoldable pub character : ℕ → ℕ
character n = cond (ltb n 10) (48 + n) (87 + n)

-- a byte's two hexadecimal digits
abbrev pub hex_of : ℕ → List ℕ
hex_of b = character (b / 16) ∷ character (b % 16) ∷ []

-- bytes in hexadecimal, `-` where there are none
unfoldable pub hexadecimal : List ℕ → List ℕ
hexadecimal [] = 45 ∷ []
hexadecimal (b ∷ bs) = each hex_of (b ∷ bs)

-- `number used bytes`
unfoldable pub call_line : ℕ → ℕ → List ℕ → List ℕ
call_line number used bytes = decimal number ++ (word (decimal used) ++ (word (hexadecimal bytes) ++ (10 ∷ [])))
