-- `settle_charges::charge` meets its contract. The loop's invariant: the entries before i are charged. Assumes nothing.
use Rattle.settle_facts.specs.CellFacts.{facts}
use Rattle.settle_charges.specs.Charging.{Charging}
use Rattle.settle_charges.proofs.charge.Given as goal

abbrev pub invariant-loop-i : goal.invariant-loop-i
invariant-loop-i l = Charging (facts l.year.cells) l.k l.ev l.i l.initial.work l.work l.all
