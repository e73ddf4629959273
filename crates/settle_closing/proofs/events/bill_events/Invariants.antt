-- `settle_closing::events::bill_events` meets its contract. The loop's invariant: the events before ev are billed. Assumes nothing.
use Prim.Native.Nat.{◌≤◌}
use Rattle.settle_facts.specs.CellFacts.{facts}
use Rattle.settle_table.specs.Places.{dispatch_count_row, passed_places}
use Rattle.settle_table.specs.Rows.{Aside}
use Rattle.settle_closing.specs.Passes.{Run}
use Rattle.settle_closing.proofs.events.bill_events.Given as goal

abbrev pub invariant-loop-ev : goal.invariant-loop-ev
invariant-loop-ev l = (l.ev ≤ l.ev-end) × (Run (facts l.year.cells) l.k l.ev l.work × Aside dispatch_count_row passed_places l.initial.work l.work)
