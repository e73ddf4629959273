-- `question_list::may_test` meets its contract. Assumes nothing.
use mathlib.Core.Path.{sym}
use Rattle.question_list.proofs.may_test.Goals as goal

pub returns-then-month_begun : goal.returns-then-month_begun
returns-then-month_begun c = rw (sym c.month_begun.ensures, c.if-month_begun.true) c.testable.ensures

pub returns-else-month_begun : goal.returns-else-month_begun
returns-else-month_begun c = rw (sym c.month_begun.ensures, c.if-month_begun.false)
