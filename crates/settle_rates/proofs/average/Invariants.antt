-- `settle_rates::average` meets its contract. The loop's invariant: the areas before a have their rates. Assumes nothing.
use Prim.Native.Nat.{◌≤◌}
use Rattle.limits.specs.Limits.{areas}
use Rattle.settle_table.specs.Places.{area_rate_row}
use Rattle.settle_table.specs.Rows.{Aside, Row}
use Rattle.settle_rates.specs.Rating.{average_in}
use Rattle.settle_rates.proofs.average.Given as goal

abbrev pub invariant-loop-a : goal.invariant-loop-a
invariant-loop-a l = (l.a ≤ areas) × (Row l.work area_rate_row l.a (average_in l.initial.work) × Aside area_rate_row areas l.initial.work l.work)
