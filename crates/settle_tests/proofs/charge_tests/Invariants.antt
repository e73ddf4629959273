-- `settle_tests::charge_tests` meets its contract: seller by seller; where no test is taken, every charge is 0.
use Prim.Native.Nat.{◌≤◌}
use mathlib.Core.Path.{◌≡◌}
use lib.ListN.{length}
use Rattle.limits.specs.Limits.{sellers}
use Rattle.owed.specs.Owed.{test}
use Rattle.settle_facts.specs.CellFacts.{facts}
use Rattle.settle_table.specs.Places.{test_row, size}
use Rattle.settle_table.specs.Rows.{Aside, Row}
use Rattle.settle_tests.specs.Sums.{Summed}
use Rattle.settle_tests.proofs.charge_tests.Given as goal

abbrev pub invariant-loop-s : goal.invariant-loop-s
invariant-loop-s l = (l.s ≤ sellers) × (length l.work ≡ size) × Aside test_row sellers l.initial.work l.work × Row l.work test_row l.s (test (facts l.year.cells) l.k) × Summed l.year.cells l.sums
