-- `question_list::month_begun` meets its contract. Assumes nothing.
use mathlib.Core.Path.{sym}
use Rattle.question_list.specs.Questions.{month_begun}
use Rattle.question_list.proofs.month_begun.Goals as goal

pub returns : goal.returns
unfolding month_begun
returns c = rw (sym c.closed-closed.ensures)
