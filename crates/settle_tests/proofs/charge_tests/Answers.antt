-- `settle_tests::charge_tests` meets its contract: seller by seller; where no test is taken, every charge is 0.
use mathlib.Core.Path.{sym, ◌∙◌}
use Rattle.settle_table.specs.Rows.{row_same}
use Rattle.settle_tests.specs.Entries.{none-taken}
use Rattle.settle_tests.proofs.charge_tests.Goals as goal

pub returns-then-not-any_taken-clause-charged : goal.returns-then-not-any_taken-clause-charged
returns-then-not-any_taken-clause-charged c =
    row_same c.requires.row (λ j l. none-taken c.args.year.now.valid c.args.k j (sym c.any_taken.ensures ∙ c.if-not-any_taken.true))
