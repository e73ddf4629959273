-- `settle_tests::any_taken` meets its contract: the chain asks each group.
use Rattle.std.proofs.Common.{◌∙◌, arith, rules, tests}
use Rattle.std.proofs.lemmas.Iterator.{YieldsList-from_range}
use Rattle.std.proofs.lemmas.Iterator.Search.{any_from_yields_List}
use Rattle.ids.specs.Chains.{any_over}
use Rattle.limits.specs.Limits.{test_groups}
use Rattle.settle_tests.specs.Entries.{taken_at}
use Rattle.settle_tests.proofs.any_taken.Goals as goal

pub returns : goal.returns
returns c =
    let p = taken_at c.args.year.now.cells in
    any_from_yields_List p _ _ c.any.result c.any.ensures.ran (YieldsList-from_range 0 test_groups test_groups (cc) (omega arith)) (λ x b q k. search (rules, tests)) ∙ any_over p test_groups
