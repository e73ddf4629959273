-- `settle_tests::sums::sum_up` meets its contract: entry by entry, three stores at the group and seller of each that stands.
use Prim.Native.Nat.{◌≤◌}
use Rattle.limits.specs.Limits.{registrations}
use Rattle.settle_tests.specs.Sums.{Summing}
use Rattle.settle_tests.proofs.sums.sum_up.Given as goal

abbrev pub invariant-loop-i : goal.invariant-loop-i
invariant-loop-i l = (l.i ≤ registrations) × Summing l.year.cells l.i l.sums
