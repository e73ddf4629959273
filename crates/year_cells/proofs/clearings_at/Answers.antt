-- `year_cells::clearings_at` meets its contract: the numbers of its row. Assumes nothing.
use mathlib.Core.Path.{sym}
use Rattle.year.specs.Year.{no_clearings}
use Rattle.year_cells.specs.Regions.{clearings-in}
use Rattle.year_cells.proofs.clearings_at.Goals as goal

pub returns : goal.returns
returns c =
    sym (clearings-in c.args.year.now no_clearings c.requires)
