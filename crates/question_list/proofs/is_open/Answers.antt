-- `question_list::is_open` meets its contract. Assumes nothing.
use mathlib.Core.Path.{sym}
use Rattle.question_list.proofs.is_open.Goals as goal

pub returns-then-opened : goal.returns-then-opened
returns-then-opened c = rw (sym c.opened.ensures, c.if-opened.true, sym c.closed.ensures)

pub returns-else-opened : goal.returns-else-opened
returns-else-opened c = rw (sym c.opened.ensures, c.if-opened.false)
