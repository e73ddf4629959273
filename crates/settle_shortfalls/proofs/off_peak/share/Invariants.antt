-- `settle_shortfalls::off_peak::share` meets its contract. The loop's invariant: the entries before i have their shares. Assumes nothing.
use Rattle.settle_facts.specs.CellFacts.{facts}
use Rattle.settle_shortfalls.specs.OffPeak.{Sharing}
use Rattle.settle_shortfalls.proofs.off_peak.share.Given as goal

abbrev pub invariant-loop-i : goal.invariant-loop-i
invariant-loop-i l = Sharing (facts l.year.cells) l.ev l.i l.initial.work l.work
