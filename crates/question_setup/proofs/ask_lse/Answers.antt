-- `question_setup::ask_lse` meets its contract: 6 and 7, then 9. Assumes nothing.
use Rattle.refusals.specs.Asked.{handed, both_refused, both_passed}
use Rattle.record_layouts.specs.Questions.{first_failed}
use Rattle.question_list.specs.Questions.{q6, q7, q8, q9, q10, q17, q11, q20, q21, q12, q13, q14, q15, q16, questions}
use Rattle.question_setup.proofs.ask_lse.Goals as goal

pub returns-in_err-ask_joining : goal.returns-in_err-ask_joining
unfolding first_failed questions q6 q7 q8 q9 q10 q17 q11 q20 q21 q12 q13 q14 q15 q16
returns-in_err-ask_joining c = λ l room. handed c.from_residual.result _ c.from_residual.ensures.1 (both_refused _ _ _ 6 7 _ c.in_err-ask_joining.ensures)

pub returns : goal.returns
unfolding first_failed questions q6 q7 q8 q9 q10 q17 q11 q20 q21 q12 q13 q14 q15 q16
returns c =
    λ l room. both_passed _ _ 5 6 c.in_ok-ask_joining.ensures (rw c.obligation_of.ensures at c.ask.ensures)
