-- `settle_tests::deficit_of` meets its contract: the number in the test's row, at most 1,000,000.
use native.Mathlib.Omega.{arith}
use Rattle.owed_laws.specs.Limits.{limits}
use Rattle.settle_tests.specs.Entries.{deficit-in}
use Rattle.settle_tests.proofs.deficit_of.Goals as goal

pub sum-requires : goal.sum-requires
sum-requires c =
    omega (arith, deficit-in c.args.year.now.cells c.requires.group_lt_test_groups.0 c.requires.group_lt_test_groups.1, (limits c.args.year.now.valid.sound).test_deficit c.args.group c.args.s)
