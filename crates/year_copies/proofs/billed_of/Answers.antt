-- `year_copies::billed_of` meets its contract: four rows of amounts. Assumes nothing.
use Rattle.year_cells.specs.Layout.{cell_billed}
use Rattle.year_copies.proofs.billed_of.Goals as goal

pub returns : goal.returns
unfolding cell_billed
returns c = cc (c.numbers_at-compliance.ensures, c.numbers_at-test.ensures, c.numbers_at-credit.ensures, c.numbers_at-lse.ensures)
