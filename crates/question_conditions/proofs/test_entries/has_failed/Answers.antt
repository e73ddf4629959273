-- `question_conditions::test_entries::has_failed` meets its contract. Assumes nothing.
use mathlib.Core.Path.{sym}
use Rattle.year.specs.Year.{committed}
use Rattle.owed.specs.Retests.{failed}
use Rattle.question_conditions.proofs.test_entries.has_failed.Goals as goal

pub returns-then-is_entry : goal.returns-then-is_entry
unfolding failed committed
returns-then-is_entry c = rw (sym c.is_entry.ensures, c.if-is_entry.true, c.first_in.ensures, c.registration_at-r.ensures)

pub returns-else-is_entry : goal.returns-else-is_entry
unfolding failed
returns-else-is_entry c = rw (sym c.is_entry.ensures, c.if-is_entry.false)
