-- `year_cells::registration_at` meets its contract: the numbers of the registration's row. Assumes nothing.
use mathlib.Core.Path.{sym}
use Rattle.year.specs.Year.{no_registration}
use Rattle.year_cells.specs.Regions.{registration-in}
use Rattle.year_cells.proofs.registration_at.Goals as goal

pub returns : goal.returns
returns c =
    sym (registration-in c.args.year.now no_registration c.requires)
