-- Every number passed is within its limits; the first that is not settles the question.
use mathlib.Core.Bool.{true}
use mathlib.Core.Path.{◌≡◌}
use Rattle.ids.specs.Ids.{at, all_to}
use Rattle.record_layouts.specs.Parts.{between}
use Rattle.record_checks.proofs.limits.are_within.Given as goal

abbrev pub invariant-loop-j : goal.invariant-loop-j
invariant-loop-j l = all_to l.j (λ j. between (at l.lows j) (at l.highs j) (at l.values j)) ≡ true
