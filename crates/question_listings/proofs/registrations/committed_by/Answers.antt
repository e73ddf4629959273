-- `question_listings::registrations::committed_by` meets its contract. Assumes nothing.
use mathlib.Core.Path.{sym}
use Rattle.year.specs.Year.{committed}
use Rattle.question_listings.proofs.registrations.committed_by.Goals as goal

pub returns-then-is_selected : goal.returns-then-is_selected
unfolding committed
returns-then-is_selected c = rw (sym c.is_selected.ensures, c.if-is_selected.true, c.registration_at-r.ensures)

pub returns-else-is_selected : goal.returns-else-is_selected
returns-else-is_selected c = rw (sym c.is_selected.ensures, c.if-is_selected.false)
