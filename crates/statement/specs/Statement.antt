-- A close's statement: its fields in order, and its bits.
use Rattle.std.specs.Prelude.{ℕ, zero, suc, ◌+◌, ◌-◌, ◌*◌, ◌%◌, ◌^◌, Bool, ◌&&◌, cond, List, [], ◌∷◌, ◌++◌, map, ltb, eqb, length, drop}
use Rattle.ids.specs.Ids.{at, holds, count_to, any_to, tabulate}
use Rattle.limits.specs.Limits.{parties, sellers}
use Rattle.bits.specs.Pack.{encode}
use Rattle.year.specs.declared.Terms.{Terms}
use Rattle.year.specs.declared.Amounts.{Amounts}
use Rattle.year.specs.Year.{known, seller, obligation, size, lse_count}

-- the bits of an amount, and the bytes of the largest statement
abbrev pub amount_bits : ℕ
amount_bits = 42

-- now less before, in 42 bits of two's complement
unfoldable pub difference : ℕ → ℕ → ℕ
difference now before = (now + 2 ^ amount_bits - before) % 2 ^ amount_bits

-- the parties: has seller s a registration, is LSE j known
module _ (T : Terms) where
  unfoldable pub has_registration : ℕ → Bool
  has_registration s = any_to (size T) (λ i. known T i && eqb (seller T i) s)

  unfoldable pub has_obligation : ℕ → Bool
  has_obligation j = ltb 0 (obligation T j)

-- a field: its width and its value
abbrev pub Field : Type 0
Field = ℕ × ℕ

abbrev pub widths_of : List Field → List ℕ
widths_of fs = map (λ f. f.0) fs

abbrev pub values_of : List Field → List ℕ
values_of fs = map (λ f. f.1) fs

-- amounts to date stand in columns of sixteen ids, one after another: of sellers, compliance, test and credit
unfoldable pub seller_columns : Amounts → List ℕ
seller_columns a = a.compliance ++ (a.test ++ a.credit)

-- the amount of party i in column k: to date now less to date before
abbrev pub amount_field : List ℕ → List ℕ → ℕ → ℕ → Field
amount_field now before i k = (amount_bits, difference (at now (parties * k + i)) (at before (parties * k + i)))

-- the line of party i: its id, and its amounts in n columns
unfoldable pub line_fields : ℕ → List ℕ → List ℕ → ℕ → List Field
line_fields n now before i = (4, i) ∷ tabulate n (amount_field now before i)

-- the line of a seller: compliance, test, credit; of an LSE: credit
module _ (now before : Amounts) where
  abbrev pub seller_fields : ℕ → List Field
  seller_fields = line_fields 3 (seller_columns now) (seller_columns before)

  abbrev pub lse_fields : ℕ → List Field
  lse_fields = line_fields 1 now.lse before.lse

-- the lines of the ids below n that pass a test, rising
unfoldable pub lines_to : ℕ → (ℕ → Bool) → (ℕ → List Field) → List Field
lines_to zero p f = []
lines_to (suc n) p f = lines_to n p f ++ cond (p n) (f n) []

-- the lines of the marked sellers, then those of the marked LSEs
abbrev pub party_lines : List Bool → List Bool → Amounts → Amounts → List Field
party_lines ps qs now before =
    lines_to parties (holds ps) (seller_fields now before) ++ lines_to parties (holds qs) (lse_fields now before)

-- the statement of month k: month, number of sellers, number of LSEs, then the lines of each
module _ (T : Terms) (k : ℕ) (now before : Amounts) where
  unfoldable pub statement_fields : List Field
  statement_fields =
      ((4, k) ∷ (5, count_to sellers (has_registration T)) ∷ (5, count_to (lse_count T) (has_obligation T)) ∷ [])
      ++ (lines_to sellers (has_registration T) (seller_fields now before) ++ lines_to (lse_count T) (has_obligation T) (lse_fields now before))

  -- its bytes, zero bits filling the last
  unfoldable pub statement_of : List ℕ
  statement_of = encode (widths_of statement_fields) (values_of statement_fields)

  -- a buffer with the statement over its front, and the rest as it was
  abbrev pub issued_over : List ℕ → List ℕ
  issued_over buffer = let s = statement_of in s ++ drop (length s) buffer
