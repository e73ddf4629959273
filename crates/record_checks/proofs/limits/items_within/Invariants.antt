-- Every field passed is within its limits in each item; the first that is not settles the question.
use mathlib.Core.Bool.{true}
use mathlib.Core.Path.{◌≡◌}
use Prim.Native.Nat.{◌+◌}
use lib.ListN.{length}
use Rattle.ids.specs.Ids.{at, all_to}
use Rattle.record_layouts.specs.Parts.{column_within}
use Rattle.record_checks.proofs.limits.items_within.Given as goal

abbrev pub invariant-loop-j : goal.invariant-loop-j
invariant-loop-j l =
    all_to l.j (λ i. column_within (at l.lows i) (at l.highs i) l.values (l.row.from + i) (length l.lows) l.row.n) ≡ true
