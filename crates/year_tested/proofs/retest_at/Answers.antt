-- `year_tested::retest_at` meets its contract: the mark and the reduction of its entry. Assumes nothing.
use mathlib.Core.Path.{sym}
use Rattle.year.specs.Year.{no_retest}
use Rattle.year_cells.specs.Regions.{retest-in}
use Rattle.year_tested.proofs.retest_at.Goals as goal

pub returns : goal.returns
returns c =
    sym (retest-in c.args.year.now no_retest c.requires)
