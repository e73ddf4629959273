-- `settle_shortfalls::nets` meets its contract. The loop's invariant: the sellers before s are netted. Assumes nothing.
use Rattle.settle_facts.specs.CellFacts.{facts}
use Rattle.settle_table.specs.Places.{short_row, allotment_places}
use Rattle.settle_table.specs.Rows.{Aside}
use Rattle.settle_shortfalls.specs.Weighing.{Netted}
use Rattle.settle_shortfalls.proofs.nets.Given as goal

abbrev pub invariant-loop-s : goal.invariant-loop-s
invariant-loop-s l = Netted (facts l.year.cells) l.ev l.s l.work × Aside short_row allotment_places l.initial.work l.work
