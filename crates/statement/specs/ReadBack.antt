-- What a reader finds in a statement's bytes, from the layout alone: its lines, each party's amounts, and their sums.
use Rattle.std.specs.Prelude.{ℕ, zero, suc, ◌+◌, ◌*◌, cond, List, eqb, ℤ, pos, ◌+ℤ◌}
use Rattle.bits.specs.Bits.{field_at}
use Rattle.statement.specs.Value42.{value42}

-- g 0 + g 1 + .. + g (n - 1)
unfoldable pub sumℤ : ℕ → (ℕ → ℤ) → ℤ
sumℤ zero g = pos 0
sumℤ (suc n) g = sumℤ n g +ℤ g n

module _ (xs : List ℕ) where
  unfoldable pub month_in : ℕ
  month_in = field_at xs 0 4

  unfoldable pub sellers_in : ℕ
  sellers_in = field_at xs 4 5

  unfoldable pub lses_in : ℕ
  lses_in = field_at xs 9 5

  -- an id and an amount at a bit
  unfoldable pub id_at : ℕ → ℕ
  id_at p = field_at xs p 4

  unfoldable pub amount_at : ℕ → ℤ
  amount_at p = value42 (field_at xs p 42)

  -- where the i-th seller's line is: id, compliance, test, credit; and the j-th LSE's, behind them: id, credit
  abbrev pub seller_line : ℕ → ℕ
  seller_line i = 14 + 130 * i

  abbrev pub lse_line : ℕ → ℕ
  lse_line j = 14 + 130 * sellers_in + 46 * j

  -- the amounts of seller s, each by its bit in the line, and of LSE j; 0 where the statement has no line of them
  abbrev pub seller_in : ℕ → ℕ → ℤ
  seller_in c s = sumℤ sellers_in (λ i. cond (eqb (id_at (seller_line i)) s) (amount_at (seller_line i + c)) (pos 0))

  unfoldable pub compliance_in : ℕ → ℤ
  compliance_in s = seller_in 4 s

  unfoldable pub test_in : ℕ → ℤ
  test_in s = seller_in 46 s

  unfoldable pub credit_in : ℕ → ℤ
  credit_in s = seller_in 88 s

  unfoldable pub lse_in : ℕ → ℤ
  lse_in j = sumℤ lses_in (λ i. cond (eqb (id_at (lse_line i)) j) (amount_at (lse_line i + 4)) (pos 0))

  -- the statement's charges and credits
  unfoldable pub charges_in : ℤ
  charges_in = sumℤ sellers_in (λ i. amount_at (seller_line i + 4) +ℤ amount_at (seller_line i + 46))

  unfoldable pub credits_in : ℤ
  credits_in = sumℤ sellers_in (λ i. amount_at (seller_line i + 88)) +ℤ sumℤ lses_in (λ j. amount_at (lse_line j + 4))
