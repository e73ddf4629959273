-- `year_test_steps::add_test` meets its contract: the mark, head and deficits, then the entries of all tests. Assumes nothing.
use Rattle.std.proofs.Common.{◌≡◌, ◌∙◌}
use Rattle.year.specs.StaysSound.{sound-test}
use Rattle.year_cells.specs.Layout.{year_in}
use Rattle.year_cells.specs.Regions.{stepped}
use Rattle.year_test_steps.specs.Tests.{after_test}
use Rattle.year_test_steps.specs.Laying.{test-laid}
use Rattle.year_test_steps.proofs.add_test.Goals as goal
use Rattle.year_test_steps.proofs.add_test.Goals.{After-enter}

laid : (c : After-enter) → year_in c.enter.new.year ≡ after_test c.args.year.now.cells c.args.group c.args.month c.args.listing.now
laid c = test-laid c.args.listing.now c.args.group c.requires.group_lt_test_groups c.told-listing c.lay.ensures c.lay-2.ensures c.lay-3.ensures c.enter.ensures c.args.year.now.valid c.requires.no_test_value c.requires.sound_test

pub returns : goal.returns
returns c = laid (goal.at.returns c).After-enter

pub invariant_of-year : goal.invariant_of-year
invariant_of-year c =
    let valid = c.args.year.now.valid in
    let long = c.enter.ensures.long ∙ c.lay-3.ensures.long ∙ c.lay-2.ensures.long ∙ c.lay.ensures.long in
    record { valid = (stepped valid long (laid (goal.at.invariant_of-year c).After-enter) (sound-test valid.sound c.args.group c.requires.sound_test)).1 }
