-- `year_copies::terms_of` meets its contract. Assumes nothing.
use Rattle.year_cells.specs.Layout.{cell_obligations}
use Rattle.year_copies.proofs.terms_of.Goals as goal

pub returns : goal.returns
unfolding cell_obligations
returns c = cc (c.registrations_of-registrations.ensures, c.numbers_at-obligations.ensures)
