-- `question_conditions::test_entries::is_retested` meets its contract. Assumes nothing.
use mathlib.Core.Path.{sym}
use Rattle.question_conditions.proofs.test_entries.is_retested.Goals as goal

pub returns-then-is_entry : goal.returns-then-is_entry
returns-then-is_entry c = rw (sym c.is_entry.ensures, c.if-is_entry.true, c.retest_at-retest.ensures)

pub returns-else-is_entry : goal.returns-else-is_entry
returns-else-is_entry c = rw (sym c.is_entry.ensures, c.if-is_entry.false)
