-- `settle_dispatch::count_event` meets its contract. The loop's invariant: the entries before i are counted. Assumes nothing.
use Rattle.settle_facts.specs.CellFacts.{facts}
use Rattle.settle_dispatch.specs.Counting.{Counts}
use Rattle.settle_dispatch.proofs.count_event.Given as goal

abbrev pub invariant-loop-i : goal.invariant-loop-i
invariant-loop-i l = Counts (facts l.year.cells) l.ev l.i l.initial.work l.work
