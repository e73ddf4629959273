-- `settle_shortfalls::off_peak::nets` meets its contract. The loop's invariant: the sellers before s are netted. Assumes nothing.
use Rattle.settle_facts.specs.CellFacts.{facts}
use Rattle.settle_table.specs.Places.{off_short_row}
use Rattle.settle_table.specs.Rows.{Aside}
use Rattle.settle_shortfalls.specs.OffPeak.{sum_places, Netted}
use Rattle.settle_shortfalls.proofs.off_peak.nets.Given as goal

abbrev pub invariant-loop-s : goal.invariant-loop-s
invariant-loop-s l = Netted (facts l.year.cells) l.ev l.s l.work × Aside off_short_row sum_places l.initial.work l.work
