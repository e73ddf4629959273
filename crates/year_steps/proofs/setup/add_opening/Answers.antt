-- `year_steps::setup::add_opening` meets its contract: one row. Assumes nothing.
use Rattle.year.specs.StaysSound.{sound-opening}
use Rattle.year_cells.specs.Regions.{stepped}
use Rattle.year_steps.specs.SetupLaid.{opening-laid}
use Rattle.year_steps.proofs.setup.add_opening.Goals as goal

pub returns : goal.returns
returns c = opening-laid c.lay.ensures

pub invariant_of-year : goal.invariant_of-year
invariant_of-year c =
    let year = c.args.year.now in
    let h = c.lay.ensures in
    record { valid = (stepped year.valid h.long (opening-laid h) (sound-opening year.valid.sound c.requires.factors)).1 }
