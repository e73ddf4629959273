-- `question_number::ask_close` meets its contract: 6 and 8, then 15 and 16. Assumes nothing.
use Rattle.refusals.specs.Asked.{handed, refused, passed, both_refused, both_passed}
use Rattle.record_layouts.specs.Questions.{first_failed}
use Rattle.question_list.specs.Questions.{q6, q7, q8, q9, q10, q17, q11, q20, q21, q12, q13, q14, q15, q16, questions}
use Rattle.question_number.proofs.ask_close.Goals as goal

pub returns-in_err-ask_open : goal.returns-in_err-ask_open
unfolding first_failed questions q6 q7 q8 q9 q10 q17 q11 q20 q21 q12 q13 q14 q15 q16
returns-in_err-ask_open c = λ l. handed c.from_residual.result _ c.from_residual.ensures.1 (both_refused _ _ _ 6 8 _ c.in_err-ask_open.ensures)

pub returns-in_err-ask : goal.returns-in_err-ask
unfolding first_failed questions q6 q7 q8 q9 q10 q17 q11 q20 q21 q12 q13 q14 q15 q16
returns-in_err-ask c =
    λ l. handed c.from_residual-in_err-ask.result _ c.from_residual-in_err-ask.ensures.1 (both_passed _ _ 5 7 c.in_ok-ask_open.ensures (refused _ _ 15 _ (rw c.closed.ensures at c.in_err-ask.ensures)))

pub returns : goal.returns
unfolding first_failed questions q6 q7 q8 q9 q10 q17 q11 q20 q21 q12 q13 q14 q15 q16
returns c =
    λ l. both_passed _ _ 5 7 c.in_ok-ask_open.ensures (passed _ 14 (rw c.closed.ensures at c.in_ok-ask.ensures) c.ask-2.ensures)
