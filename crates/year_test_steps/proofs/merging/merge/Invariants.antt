-- `year_test_steps::merging::merge` meets its contract. The loop's invariant: the first i entries are there. Assumes nothing.
use Rattle.ids.specs.Fill.{Filled}
use Rattle.limits.specs.Limits.{registrations}
use Rattle.year_test_steps.specs.Entered.{merged_at}
use Rattle.year_test_steps.proofs.merging.merge.Given as goal

abbrev pub invariant-loop-i : goal.invariant-loop-i
invariant-loop-i l = Filled 0 registrations (merged_at l.year l.place l.listing l.part) l.entries l.i
