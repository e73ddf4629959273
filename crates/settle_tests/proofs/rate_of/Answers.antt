-- `settle_tests::rate_of` meets its contract: an average is at most the highest rate.
use native.Mathlib.Omega.{arith}
use native.Mathlib.Nat.{div-le_of_le-mul}
use Rattle.settle_tests.proofs.rate_of.Goals as goal

pub overflow_add-result : goal.overflow_add-result
overflow_add-result c = record { fits = omega (arith, div-le_of_le-mul c.args.committed.0 c.requires) }
