-- `year_cells::listed_in` meets its contract: the mark in the event's row. Assumes nothing.
use mathlib.Core.Path.{sym}
use Rattle.year_cells.specs.Regions.{listed_in}
use Rattle.year_cells.proofs.listed_in.Goals as goal

pub returns : goal.returns
returns c = sym (listed_in c.args.year.now c.requires.e_lt_event_limit c.requires.i_lt_registrations)
