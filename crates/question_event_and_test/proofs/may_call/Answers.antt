-- `question_event_and_test::may_call` meets its contract. Assumes nothing.
use mathlib.Core.Path.{sym}
use Rattle.year.specs.Year.{product}
use Rattle.question_event_and_test.proofs.may_call.Goals as goal

pub returns-then-month_begun : goal.returns-then-month_begun
unfolding product
returns-then-month_begun c = rw (sym c.month_begun.ensures, c.if-month_begun.true) c.every_listed.ensures

pub returns-else-month_begun : goal.returns-else-month_begun
returns-else-month_begun c = rw (sym c.month_begun.ensures, c.if-month_begun.false)
