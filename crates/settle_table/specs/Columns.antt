-- The registrations' terms in the working table.
use Rattle.std.specs.Prelude.{ℕ, ◌≤◌, ◌≡◌, List, length}
use Rattle.std.proofs.Common.{◌∙◌, arith}
use Rattle.limits.specs.Limits.{registrations}
use Rattle.owed.specs.Facts.{Facts}
use Rattle.owed.specs.Owed as owed
use Rattle.settle_table.specs.Rows.{Aside, Row, row-aside}
use Rattle.settle_table.specs.Places.{seller_row, product_row, committed_row, rate_row, cap_row, dispatch_count_row, size}
use Rattle.year.specs.Year as year

-- those of the first n
pub record Columns (F : Facts) (n : ℕ) (w : List ℕ) : Type 0 where
  pub long : length w ≡ size
  pub seller : Row w seller_row n F.seller
  pub product : Row w product_row n (year.product F.terms)
  pub committed : Row w committed_row n (year.committed F.terms)
  pub rate : Row w rate_row n (owed.rate F)
  pub cap : Row w cap_row n (owed.cap F)

-- what is stored behind them leaves them as they are
pub columns-aside : {F : Facts} {p n m : ℕ} {w v : List ℕ} → Columns F m w → Aside p n w v → m ≤ registrations → dispatch_count_row ≤ p → Columns F m v
columns-aside h a b l =
    record {
      long = a.long ∙ h.long;
      seller = row-aside h.seller a (λ j m x y. omega arith);
      product = row-aside h.product a (λ j m x y. omega arith);
      committed = row-aside h.committed a (λ j m x y. omega arith);
      rate = row-aside h.rate a (λ j m x y. omega arith);
      cap = row-aside h.cap a (λ j m x y. omega arith);
    }
