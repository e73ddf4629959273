-- `year_steps::setup::add_registration` meets its contract: one row. Assumes nothing.
use Rattle.std.proofs.Common.{◌≡◌}
use Rattle.year.specs.StaysSound.{sound-registration}
use Rattle.year.specs.Steps.{with_registration}
use Rattle.year_cells.specs.Layout.{year_in}
use Rattle.year_cells.specs.Regions.{stepped}
use Rattle.year_steps.specs.SetupLaid.{registration-laid}
use Rattle.year_steps.proofs.setup.add_registration.Goals as goal
use Rattle.year_steps.proofs.setup.add_registration.Goals.{After-lay}

laid : (c : After-lay) → year_in c.lay.new.cells ≡ with_registration (year_in c.args.year.now.cells) c.args.id c.args.r
laid c = registration-laid c.args.year.now.valid.sound c.requires.year_value c.args.id c.args.r c.requires.id_lt_registrations c.requires.known_value c.lay.ensures

pub returns : goal.returns
returns c = laid (goal.at.returns c).After-lay

pub invariant_of-year : goal.invariant_of-year
invariant_of-year c =
    let valid = c.args.year.now.valid in
    record { valid = (stepped valid c.lay.ensures.long (laid (goal.at.invariant_of-year c).After-lay) (sound-registration valid.sound c.requires.year_value c.args.id c.requires.sound_registration)).1 }
