-- `question_list::ask_open` meets its contract: 6, then 8. Assumes nothing.
use Rattle.refusals.specs.Asked.{handed, refused, passed}
use Rattle.record_layouts.specs.Questions.{first_failed}
use Rattle.question_list.proofs.ask_open.Goals as goal

pub returns-in_err-ask : goal.returns-in_err-ask
unfolding first_failed
returns-in_err-ask c = handed c.from_residual.result _ c.from_residual.ensures.1 (refused _ _ 6 _ (rw c.is_open.ensures at c.in_err-ask.ensures))

pub returns : goal.returns
unfolding first_failed
returns c = passed _ 5 (rw c.is_open.ensures at c.in_ok-ask.ensures) (rw c.has_parties.ensures at c.ask-2.ensures)
