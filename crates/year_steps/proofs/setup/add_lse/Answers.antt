-- `year_steps::setup::add_lse` meets its contract: one row. Assumes nothing.
use Rattle.year.specs.StaysSound.{sound-lse}
use Rattle.year_cells.specs.Regions.{stepped}
use Rattle.year_steps.specs.SetupLaid.{lse-laid}
use Rattle.year_steps.proofs.setup.add_lse.Goals as goal

pub returns : goal.returns
returns c = lse-laid c.args.id c.requires.id_lt_lses c.lay.ensures

pub invariant_of-year : goal.invariant_of-year
invariant_of-year c =
    let year = c.args.year.now in
    let h = c.lay.ensures in
    record { valid = (stepped year.valid h.long (lse-laid c.args.id c.requires.id_lt_lses h) (sound-lse year.valid.sound c.args.id c.requires.kw_le_obligation_limit)).1 }
