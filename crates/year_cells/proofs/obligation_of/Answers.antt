-- `year_cells::obligation_of` meets its contract: the number of the LSE. Assumes nothing.
use mathlib.Core.Path.{sym}
use Rattle.year.specs.Year.{obligation}
use Rattle.year_cells.specs.Regions.{obligation-in}
use Rattle.year_cells.proofs.obligation_of.Goals as goal

pub returns : goal.returns
unfolding obligation
returns c = sym (obligation-in c.args.year.now c.requires)
