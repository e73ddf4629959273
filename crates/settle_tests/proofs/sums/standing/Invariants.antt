-- `settle_tests::sums::standing` meets its contract: the entries so far.
use Prim.Native.Nat.{ℕ, ◌<◌}
use mathlib.Core.Path.{◌≡◌}
use mathlib.Core.Bool.{false}
use lib.ListN.{get_or}
use Rattle.settle_tests.specs.Entries.{stands}
use Rattle.settle_tests.proofs.sums.standing.Given as goal

abbrev pub invariant-loop-i : goal.invariant-loop-i
invariant-loop-i l = (k : ℕ) → k < l.i → get_or l.place-items k false ≡ stands l.year.cells k
