-- The passes over the accepted events, one after the other.
use Rattle.std.specs.Prelude.{ℕ, ◌+◌, ◌-◌, ◌≤◌, List}
use Rattle.std.proofs.Common.{arith}
use Rattle.limits.specs.Limits.{registrations, sellers}
use Rattle.settle_charges.specs.Charging.{Billed, billed-first}
use Rattle.settle_credits.specs.Crediting.{credit_by, credit-first}
use Rattle.owed.specs.Facts.{Facts}
use Rattle.settle_dispatch.specs.Counting.{DispatchCounts, DispatchMarks}
use Rattle.settle_table.specs.Columns.{Columns, columns-aside}
use Rattle.settle_table.specs.Places.{dispatch_count_row, spent_row, compliance_row, credit_row, short_row}
use Rattle.settle_table.specs.Rows.{Aside, Row, none, row-aside, row_within}

-- after m events
pub record Run (F : Facts) (k m : ℕ) (w : List ℕ) : Type 0 where
  pub columns : Columns F registrations w
  pub dispatch_count : DispatchCounts F w
  pub dispatched : DispatchMarks F w
  pub billed : Billed F k m w
  pub credit : Row w credit_row sellers (credit_by F k m)

-- after pass 1
pub run-first : {F : Facts} (k : ℕ) {w v : List ℕ} → Columns F registrations w → Row w dispatch_count_row 224 none → Aside dispatch_count_row (spent_row - dispatch_count_row) w v
    → DispatchCounts F v → DispatchMarks F v → Run F k 0 v
run-first {F} k {w} {v} h z a n c =
    record {
      columns = columns-aside h a (omega arith) (omega arith);
      dispatch_count = n;
      dispatched = c;
      billed = billed-first F k (fresh spent_row registrations (omega arith) (omega arith)) (fresh compliance_row sellers (omega arith) (omega arith));
      credit = credit-first F k (fresh credit_row sellers (omega arith) (omega arith));
    }
  where
    fresh : (p n : ℕ) → spent_row ≤ p → p + n ≤ short_row → Row v p n none
    fresh p n x y = row-aside (row_within p n z (omega arith) (omega arith)) a (λ j l o q. omega arith)
