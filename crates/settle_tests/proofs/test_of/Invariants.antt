-- `settle_tests::test_of` meets its contract: group by group.
use Prim.Native.Nat.{◌≤◌}
use mathlib.Core.Path.{◌≡◌}
use Rattle.ids.specs.Ids.{sum_to}
use Rattle.limits.specs.Limits.{test_groups}
use Rattle.owed.specs.Owed.{test_charge}
use Rattle.settle_facts.specs.CellFacts.{facts}
use Rattle.settle_tests.proofs.test_of.Given as goal

abbrev pub invariant-loop-group : goal.invariant-loop-group
invariant-loop-group l = (l.group ≤ test_groups) × (l.sum ≡ sum_to l.group (λ p. test_charge (facts l.year.cells) l.k p l.s))
