-- `settle_shortfalls::off_peak::sums` meets its contract. The loop's invariant: the entries before i are added up. Assumes nothing.
use Rattle.settle_facts.specs.CellFacts.{facts}
use Rattle.settle_shortfalls.specs.OffPeak.{Weighing}
use Rattle.settle_shortfalls.proofs.off_peak.sums.Given as goal

abbrev pub invariant-loop-i : goal.invariant-loop-i
invariant-loop-i l = Weighing (facts l.year.cells) l.ev l.i l.initial.work l.work
