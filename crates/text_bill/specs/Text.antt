-- The bill's lines, as bytes (document 01, 'The bill program').
use Rattle.std.specs.Prelude.{ℕ, zero, suc, ◌+◌, ◌*◌, cond, List, [], ◌∷◌, ◌++◌, ℤ, pos, negsuc, eqb}
use Rattle.bits.specs.Bits.{field_at}
use Rattle.text.specs.Lines.{decimal, word}
use Rattle.statement.specs.Value42.{value42}

-- cents in decimal, with `-` before a negative
unfoldable pub cents : ℤ → List ℕ
cents (pos n) = decimal n
cents (negsuc n) = 45 ∷ decimal (suc n)

-- `N position number`
unfoldable pub refusal_line : ℕ → ℕ → List ℕ
refusal_line position number = 78 ∷ (word (decimal position) ++ (word (decimal number) ++ (10 ∷ [])))

-- n texts, each of so many bits, from bit p on
unfoldable pub lines_from : (ℕ → List ℕ) → ℕ → ℕ → ℕ → List ℕ
lines_from line bits p zero = []
lines_from line bits p (suc n) = lines_from line bits p n ++ line (p + bits * n)

-- `M month`
unfoldable pub month_line : ℕ → List ℕ
month_line month = 77 ∷ (word (decimal month) ++ (10 ∷ []))

-- a party with n amounts: the bits that it has in a statement, and the bytes that its line has at most
abbrev pub party_bits : ℕ → ℕ
party_bits n = 4 + 42 * n

abbrev pub party_room : ℕ → ℕ
party_room n = 23 + 22 * n

-- of a statement's bytes
module _ (xs : List ℕ) where
  -- the amount in the 42 bits from p on
  abbrev pub amount_at : ℕ → List ℕ
  amount_at p = word (cents (value42 (field_at xs p 42)))

  -- the line of a party at bit p: a letter, its id and n amounts
  unfoldable pub party_line : ℕ → ℕ → ℕ → List ℕ
  party_line letter n p = letter ∷ (word (decimal (field_at xs p 4)) ++ (lines_from amount_at 42 (p + 4) n ++ (10 ∷ [])))

  -- the lines of so many parties from bit p on
  abbrev pub party_lines : ℕ → ℕ → ℕ → ℕ → List ℕ
  party_lines letter n p count = lines_from (party_line letter n) (party_bits n) p count

  -- a statement's lines, in its order: `S seller compliance test credit`, `L lse credit`
  unfoldable pub statement_lines : List ℕ
  statement_lines =
      month_line (field_at xs 0 4)
      ++ (party_lines 83 3 14 (field_at xs 4 5)
      ++ party_lines 76 1 (14 + 130 * field_at xs 4 5) (field_at xs 9 5))

-- the report of a record: a refusal's line, an accepted close's statement, of any other record nothing
unfoldable pub answer_lines : ℕ → ℕ → ℕ → List ℕ → List ℕ
answer_lines position kind number xs = cond (eqb number 0) (cond (eqb kind 6) (statement_lines xs) []) (refusal_line position number)

-- room for a report: the counts are below 32 and a number has at most 20 digits, so a statement's lines have at most 23 + 31 × 89 + 31 × 45 bytes
abbrev pub room : ℕ
room = 4177

-- room for a statement, whatever its counts: 14 + 31 × 130 + 31 × 46 bits
abbrev pub statement_room : ℕ
statement_room = 684
