-- Every pair of ids passed rises; the first that does not settles the question.
use mathlib.Core.Bool.{true}
use mathlib.Core.Path.{◌≡◌}
use Prim.Native.Nat.{◌+◌, ◌-◌, ◌*◌, ◌≤◌}
use lib.Dec.{ltb}
use Rattle.ids.specs.Ids.{at, all_to}
use Rattle.record_checks.proofs.rising.Given as goal

abbrev pub invariant-loop-k : goal.invariant-loop-k
invariant-loop-k l = (1 ≤ l.k) × (l.k ≤ l.n) × (l.p ≡ l.from + l.fields * (l.k - 1)) × (all_to (l.k - 1) (λ i. ltb (at l.values (l.from + l.fields * i)) (at l.values (l.from + l.fields * (i + 1)))) ≡ true)
