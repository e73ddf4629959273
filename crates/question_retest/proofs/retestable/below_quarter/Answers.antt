-- `question_retest::retestable::below_quarter` meets its contract. Assumes nothing.
use borrow.Author.Tests.{lt-ltb, le-ltb}
use Rattle.owed.specs.Retests.{below_quarter}
use Rattle.question_retest.proofs.retestable.below_quarter.Goals as goal

pub returns-then-four-gt0 : goal.returns-then-four-gt0
unfolding below_quarter
returns-then-four-gt0 c = rw (lt-ltb _ _ c.if-four-gt0.true)

pub returns-else-four-gt0 : goal.returns-else-four-gt0
unfolding below_quarter
returns-else-four-gt0 c = rw (le-ltb _ _ c.if-four-gt0.false)
