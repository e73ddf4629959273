-- `settle_credits::credit` meets its contract. The loop's invariant: the entries before i are credited. Assumes nothing.
use Rattle.settle_facts.specs.CellFacts.{facts}
use Rattle.settle_credits.specs.Crediting.{Crediting}
use Rattle.settle_credits.proofs.credit.Given as goal

abbrev pub invariant-loop-i : goal.invariant-loop-i
invariant-loop-i l = Crediting (facts l.year.cells) l.k l.ev l.i l.initial.work l.work l.allotment
