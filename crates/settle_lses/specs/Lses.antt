-- What is left for the LSEs, by the working table's rows: all charges less all credits.
use Rattle.std.specs.Prelude.{ℕ, ◌+◌, ◌*◌, ◌-◌, ◌≤◌, ◌<◌, ◌^◌, ◌≡◌, List}
use Rattle.std.proofs.Common.{sym}
use native.Mathlib.Omega.{arith}
use Rattle.ids.specs.Ids.{at, sum_to}
use Rattle.ids.specs.Sums.{sum_same, sum-add}
use Rattle.limits.specs.Limits.{sellers, lses}
use Rattle.year_cells.specs.Places.{obligations_place}
use Rattle.allotment.specs.Allot.{share}
use Rattle.year.specs.Year.{obligation}
use Rattle.year.specs.Year as year
use Rattle.year_cells.specs.Layout.{ValidCells}
use Rattle.year_cells.specs.Regions.{obligation-in}
use Rattle.owed.specs.Facts.{Facts}
use Rattle.owed.specs.Owed.{compliance, test, credit, charges, credits, lse}
use Rattle.owed_laws.specs.Limits.{limits}
use Rattle.owed_laws.specs.Balance.{credits-le-charges}
use Rattle.owed_laws.specs.Totals.{charges-le, lse-fits}
use Rattle.settle_facts.specs.CellFacts.{facts}
use Rattle.settle_table.specs.Places.{compliance_row, credit_row, test_row, lse_row}
use Rattle.settle_table.specs.Rows.{Row}

-- the sum of the sixteen places from p on
abbrev pub row_sum : List ℕ → ℕ → ℕ
row_sum w p = sum_to sellers (λ s. at w (p + s))

unfoldable pub net : List ℕ → ℕ
net w = row_sum w compliance_row + row_sum w test_row - row_sum w credit_row

-- the charges cover the credits, and fit 64 bits
pub record Covered (w : List ℕ) : Type 0 where
  pub charges : row_sum w compliance_row + row_sum w test_row < 2 ^ 64
  pub credits : row_sum w credit_row ≤ row_sum w compliance_row + row_sum w test_row

-- the LSEs' row holds what is left in the table before, allotted by obligation
abbrev pub Credited : Facts → List ℕ → List ℕ → Type 0
Credited F before w = Row w lse_row lses (share lses (year.obligation F.terms) (net before))

-- all obligations, in the year's cells
pub obligations : (c : List ℕ) → sum_to lses (λ j. at c (obligations_place + j)) ≡ sum_to lses (year.obligation (facts c).terms)
unfolding obligation
obligations c = sum_same lses (λ j l. sym (obligation-in c l))

-- where the rows hold the amounts to date at month k
module _ (c : List ℕ) (k : ℕ) {w : List ℕ} (x : Row w compliance_row sellers (compliance (facts c) k)) (y : Row w test_row sellers (test (facts c) k)) (z : Row w credit_row sellers (credit (facts c) k)) where
  abbrev F : Facts
  F = facts c

  charges-are : row_sum w compliance_row + row_sum w test_row ≡ charges F k
  unfolding charges
  charges-are =
      omega (
        arith,
        sum_same sellers {f = λ s. at w (compliance_row + s)} {g = compliance F k} x.is,
        sum_same sellers {f = λ s. at w (test_row + s)} {g = test F k} y.is,
        sum-add sellers (compliance F k) (test F k),
      )

  credits-are : row_sum w credit_row ≡ credits F k
  unfolding credits
  credits-are = sum_same sellers z.is

  net-is : net w ≡ charges F k - credits F k
  unfolding net
  net-is = rw (charges-are, credits-are)

  module _ (h : ValidCells c) where
    pub covered : Covered w
    covered =
        let L = limits h.sound in
        record { charges = omega (arith, charges-are, charges-le L k); credits = rw (charges-are, credits-are) (credits-le-charges L k) }

    pub net-fits : net w * sum_to lses (year.obligation F.terms) < 2 ^ 64
    net-fits = rw net-is (lse-fits (limits h.sound) k)

  pub lses-are : (j : ℕ) → share lses (year.obligation F.terms) (net w) j ≡ lse F k j
  unfolding lse
  lses-are j = rw net-is
