-- The cells hold a sound year, and what is answered so far and the bill of the rest are the bill of the whole.
use Rattle.year_cells.specs.Layout.{year_in}
use Rattle.bill_file.proofs.Turn.{Going}
use Rattle.bill_file.proofs.bill.Given as goal

abbrev pub invariant-loop-answered : goal.invariant-loop-answered
invariant-loop-answered l =
    Going l.records l.initial.numbers l.initial.statements l.numbers l.statements (year_in l.year.cells) l.answered l.used l.written
