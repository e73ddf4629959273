-- Every number passed is within the limits; the first that is not settles the question.
use mathlib.Core.Bool.{true}
use mathlib.Core.Path.{◌≡◌}
use Prim.Native.Nat.{◌+◌, ◌*◌}
use Rattle.ids.specs.Ids.{at, all_to}
use Rattle.record_layouts.specs.Parts.{between}
use Rattle.record_checks.proofs.limits.column_within.Given as goal

abbrev pub invariant-loop-k : goal.invariant-loop-k
invariant-loop-k l =
    (l.p ≡ l.column.from + l.k * l.column.stride) × (all_to l.k (λ j. between l.low l.high (at l.values (l.column.from + j * l.column.stride))) ≡ true)
