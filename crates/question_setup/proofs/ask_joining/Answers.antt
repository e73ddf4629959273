-- `question_setup::ask_joining` meets its contract: 6, then 7. Assumes nothing.
use Rattle.refusals.specs.Asked.{handed, refused, passed}
use Rattle.record_layouts.specs.Questions.{first_failed}
use Rattle.question_setup.proofs.ask_joining.Goals as goal

pub returns-in_err-ask : goal.returns-in_err-ask
unfolding first_failed
returns-in_err-ask c = handed c.from_residual.result _ c.from_residual.ensures.1 (refused _ _ 6 _ (rw c.is_open.ensures at c.in_err-ask.ensures))

pub returns : goal.returns
unfolding first_failed
returns c = passed _ 5 (rw c.is_open.ensures at c.in_ok-ask.ensures) (rw c.started.ensures at c.ask-2.ensures)
