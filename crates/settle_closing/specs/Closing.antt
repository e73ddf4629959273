-- A closing: the working table after the events and after the tests, and the amounts in its rows when it is done.
use Prim.Native.Nat.{ℕ, ◌+◌, ◌≤◌}
use Rattle.std.specs.Prelude.{◌≡◌, List, length}
use Rattle.std.proofs.Common.{◌∙◌, arith}
use Rattle.ids.specs.Ids.{tabulate}
use Rattle.ids.specs.Tables.{tabulate-same}
use Rattle.limits.specs.Limits.{parties, sellers, lses}
use Rattle.year.specs.declared.Amounts.{Amounts}
use Rattle.year_cells.specs.Rows.{from}
use Rattle.owed.specs.Facts.{Facts}
use Rattle.owed.specs.Owed.{amounts}
use Rattle.owed.specs.Owed as owed
use Rattle.settle_facts.specs.CellFacts.{facts}
use Rattle.settle_table.specs.Columns.{columns-aside}
use Rattle.settle_table.specs.Places.{dispatch_count_row, compliance_row, credit_row, test_row, lse_row, passed_places, size}
use Rattle.settle_table.specs.Rows.{Aside, Row, none, row-aside, row_within}
use Rattle.settle_dispatch.specs.Counting.{DispatchMarks}
use Rattle.settle_rates.specs.Rating.{Rated}
use Rattle.settle_tests.specs.Entries.{Ready}
use Rattle.settle_lses.specs.Lses.{Credited, lses-are}

-- sixteen numbers from p on
abbrev pub numbers : List ℕ → ℕ → List ℕ
numbers w p = tabulate parties (from p w)

module _ (c : List ℕ) (k : ℕ) where
  abbrev F : Facts
  F = facts c

  -- after the events, and after the tests
  pub record Evented (w : List ℕ) : Type 0 where
    pub ready : Ready c w
    pub compliance : Row w compliance_row sellers (owed.compliance F k)
    pub credit : Row w credit_row sellers (owed.credit F k)
    pub test : Row w test_row sellers none
    pub lse : Row w lse_row lses none

  pub record Tested (w : List ℕ) : Type 0 where
    pub long : length w ≡ size
    pub compliance : Row w compliance_row sellers (owed.compliance F k)
    pub credit : Row w credit_row sellers (owed.credit F k)
    pub test : Row w test_row sellers (owed.test F k)
    pub lse : Row w lse_row lses none

  pub evented : {w v : List ℕ} → Rated c w → Aside dispatch_count_row passed_places w v → DispatchMarks F v → Row v compliance_row sellers (owed.compliance F k) → Row v credit_row sellers (owed.credit F k) → Evented v
  evented h a dispatched x z =
      record {
        ready = record { columns = columns-aside h.columns a (omega arith) (omega arith); dispatched = dispatched; group = row-aside h.group a (λ j l x y. omega arith) };
        compliance = x;
        credit = z;
        test = row-aside (row_within test_row sellers h.fresh (omega arith) (omega arith)) a (λ j l x y. omega arith);
        lse = row-aside (row_within lse_row lses h.fresh (omega arith) (omega arith)) a (λ j l x y. omega arith);
      }

  pub tested : {w v : List ℕ} → Evented w → Aside test_row sellers w v → Row v test_row sellers (owed.test F k) → Tested v
  tested h a r =
      record {
        long = a.long ∙ h.ready.columns.long;
        compliance = row-aside h.compliance a (λ j l x y. omega arith);
        credit = row-aside h.credit a (λ j l x y. omega arith);
        test = r;
        lse = row-aside h.lse a (λ j l x y. omega arith);
      }

  -- the amounts in their rows
  pub amounts-are : {w v : List ℕ} → Tested w → Aside lse_row lses w v → Credited F w v
      → ◌≡◌ {A = Amounts} (record { compliance = numbers v compliance_row; test = numbers v test_row; credit = numbers v credit_row; lse = numbers v lse_row }) (amounts F k)
  unfolding amounts
  amounts-are {w} {v} h a r =
      let kept : (p n : ℕ) (f : ℕ → ℕ) → p + n ≤ lse_row → Row w p n f → Row v p n f = λ p n f l q. row-aside q a (λ j m x y. omega arith) in
      cc (
        tabulate-same parties (kept compliance_row sellers _ (omega arith) h.compliance).is,
        tabulate-same parties (kept test_row sellers _ (omega arith) h.test).is,
        tabulate-same parties (kept credit_row sellers _ (omega arith) h.credit).is,
        tabulate-same parties (λ j l. r.is j l ∙ lses-are c k h.compliance h.test h.credit j),
      )
