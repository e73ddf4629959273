-- `year_test_steps::merging::enter` meets its contract: two rows. Assumes nothing.
use Rattle.year_test_steps.specs.Entered.{entered}
use Rattle.year_test_steps.proofs.merging.enter.Goals as goal

pub returns : goal.returns
returns c =
    entered (rw c.merge-marks.ensures at c.lay.ensures) (rw c.merge-reductions.ensures at c.lay-2.ensures)
