-- `settle_lses::credit_lses` meets its contract: share by share, and none for an id without an obligation.
use Rattle.settle_lses.proofs.Begun.{Begun}
use Rattle.settle_lses.proofs.credit_lses.Given as goal

abbrev pub invariant-loop-j : goal.invariant-loop-j
invariant-loop-j l = Begun l.year.cells l.initial.work l.work l.allotment l.j
