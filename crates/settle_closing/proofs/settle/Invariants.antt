-- `settle_closing::settle`: the registrations before i are entered into the working table.
use Rattle.std.specs.Prelude.{◌≤◌}
use Rattle.limits.specs.Limits.{registrations}
use Rattle.settle_rates.specs.Entering.{Begun}
use Rattle.settle_closing.proofs.settle.Given as goal

abbrev pub invariant-loop-i : goal.invariant-loop-i
invariant-loop-i l = (l.i ≤ registrations) × Begun l.year.cells l.i l.work
