-- `settle_dispatch::count` meets its contract. The loop's invariant: the events before ev are counted. Assumes nothing.
use Prim.Native.Nat.{◌-◌}
use Rattle.settle_facts.specs.CellFacts.{facts}
use Rattle.settle_table.specs.Places.{dispatch_count_row, spent_row}
use Rattle.settle_table.specs.Rows.{Aside}
use Rattle.settle_dispatch.specs.Counting.{Counting}
use Rattle.settle_dispatch.proofs.count.Given as goal

abbrev pub invariant-loop-ev : goal.invariant-loop-ev
invariant-loop-ev l = record {
  counting : Counting (facts l.year.cells) l.ev l.work;
  aside : Aside dispatch_count_row (spent_row - dispatch_count_row) l.initial.work l.work;
}
