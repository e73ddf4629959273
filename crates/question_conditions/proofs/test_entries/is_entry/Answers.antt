-- `question_conditions::test_entries::is_entry` meets its contract. Assumes nothing.
use mathlib.Core.Path.{sym}
use Rattle.year.specs.Year.{seller}
use Rattle.owed.specs.Retests.{test_entry}
use Rattle.question_conditions.proofs.test_entries.is_entry.Goals as goal

pub returns-then-tested_in : goal.returns-then-tested_in
unfolding test_entry seller
returns-then-tested_in c = rw (sym c.tested_in.ensures, c.if-tested_in.true, c.registration_at-r.ensures)

pub returns-else-tested_in : goal.returns-else-tested_in
unfolding test_entry
returns-else-tested_in c = rw (sym c.tested_in.ensures, c.if-tested_in.false)
