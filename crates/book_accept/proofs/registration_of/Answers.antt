-- `book_accept::registration_of` meets its contract.
use mathlib.Core.Path.{sym}
use Rattle.book_accept.proofs.registration_of.Goals as goal

pub returns : goal.returns
returns c = rw (sym c.new-committed.ensures)
