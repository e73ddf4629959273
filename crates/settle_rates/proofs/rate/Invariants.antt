-- `settle_rates::rate` meets its contract. The loop's invariant: the registrations before i have their rates in force and caps. Assumes nothing.
use Prim.Native.Nat.{◌≤◌}
use Rattle.limits.specs.Limits.{registrations}
use Rattle.settle_rates.specs.Rating.{Rating}
use Rattle.settle_rates.proofs.rate.Given as goal

abbrev pub invariant-loop-i : goal.invariant-loop-i
invariant-loop-i l = (l.i ≤ registrations) × Rating l.year.cells l.i l.work
