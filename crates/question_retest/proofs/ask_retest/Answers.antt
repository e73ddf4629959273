-- `question_retest::ask_retest` meets its contract: 6 and 8, then 10, 11, 20 and 21. Assumes nothing.
use Rattle.refusals.specs.Asked.{handed, refused, passed, both_refused, both_passed}
use Rattle.record_layouts.specs.Questions.{first_failed}
use Rattle.question_list.specs.Questions.{q6, q7, q8, q9, q10, q17, q11, q20, q21, q12, q13, q14, q15, q16, questions}
use Rattle.question_retest.proofs.ask_retest.Goals as goal

pub returns-in_err-ask_open : goal.returns-in_err-ask_open
unfolding first_failed questions q6 q7 q8 q9 q10 q17 q11 q20 q21 q12 q13 q14 q15 q16
returns-in_err-ask_open c = λ room. handed c.from_residual.result _ c.from_residual.ensures.1 (both_refused _ _ _ 6 8 _ c.in_err-ask_open.ensures)

pub returns-in_err-ask : goal.returns-in_err-ask
unfolding first_failed questions q6 q7 q8 q9 q10 q17 q11 q20 q21 q12 q13 q14 q15 q16
returns-in_err-ask c =
    λ room. handed c.from_residual-in_err-ask.result _ c.from_residual-in_err-ask.ensures.1 (both_passed _ _ 5 7 c.in_ok-ask_open.ensures (refused _ _ 10 _ (rw c.lists_own.ensures at c.in_err-ask.ensures)))

pub returns-in_err-ask-2 : goal.returns-in_err-ask-2
unfolding first_failed questions q6 q7 q8 q9 q10 q17 q11 q20 q21 q12 q13 q14 q15 q16
returns-in_err-ask-2 c =
    λ room. handed c.from_residual-in_err-ask-2.result _ c.from_residual-in_err-ask-2.ensures.1 (both_passed _ _ 5 7 c.in_ok-ask_open.ensures (passed _ 9 (rw c.lists_own.ensures at c.in_ok-ask.ensures) (refused _ _ 11 _ (rw c.in_time.ensures at c.in_err-ask-2.ensures))))

pub returns-in_err-ask-3 : goal.returns-in_err-ask-3
unfolding first_failed questions q6 q7 q8 q9 q10 q17 q11 q20 q21 q12 q13 q14 q15 q16
returns-in_err-ask-3 c =
    λ room. handed c.from_residual-in_err-ask-3.result _ c.from_residual-in_err-ask-3.ensures.1 (both_passed _ _ 5 7 c.in_ok-ask_open.ensures (passed _ 9 (rw c.lists_own.ensures at c.in_ok-ask.ensures) (passed _ 10 (rw c.in_time.ensures at c.in_ok-ask-2.ensures) (refused _ _ 20 _ (rw c.may_retest.ensures at c.in_err-ask-3.ensures)))))

pub returns : goal.returns
unfolding first_failed questions q6 q7 q8 q9 q10 q17 q11 q20 q21 q12 q13 q14 q15 q16
returns c =
    λ room. both_passed _ _ 5 7 c.in_ok-ask_open.ensures (passed _ 9 (rw c.lists_own.ensures at c.in_ok-ask.ensures) (passed _ 10 (rw c.in_time.ensures at c.in_ok-ask-2.ensures) (passed _ 19 (rw c.may_retest.ensures at c.in_ok-ask-3.ensures) (rw (c.lists_exactly.ensures, c.group_of-group.ensures) at c.ask-4.ensures))))
