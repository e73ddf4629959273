-- `year_test_steps::add_retest` meets its contract: its entries alone. Assumes nothing.
use Rattle.year.specs.StaysSound.{sound-retest}
use Rattle.year_cells.specs.Regions.{stepped}
use Rattle.year_test_steps.specs.Laying.{retest-laid}
use Rattle.year_test_steps.proofs.add_retest.Goals as goal

pub returns : goal.returns
returns c = retest-laid c.args.listing.now c.enter.ensures

pub invariant_of-year : goal.invariant_of-year
invariant_of-year c =
    let valid = c.args.year.now.valid in
    let h = c.enter.ensures in
    record { valid = (stepped valid h.long (retest-laid c.args.listing.now h) (sound-retest valid.sound c.requires.year_value c.requires.sound_listing)).1 }
