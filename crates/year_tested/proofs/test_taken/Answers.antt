-- `year_tested::test_taken` meets its contract: the mark in the group's row. Assumes nothing.
use mathlib.Core.Path.{ap, sym}
use Rattle.year.specs.Year.{no_test}
use Rattle.year.specs.declared.Test.{Test}
use Rattle.year_cells.specs.Regions.{test_in}
use Rattle.year_tested.proofs.test_taken.Goals as goal

pub returns : goal.returns
returns c = sym (ap (λ (t : Test). t.taken) (test_in c.args.year.now no_test c.requires))
