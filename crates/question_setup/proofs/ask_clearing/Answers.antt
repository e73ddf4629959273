-- `question_setup::ask_clearing` meets its contract: 6 and 7, then 10 and 17. Assumes nothing.
use Rattle.refusals.specs.Asked.{handed, refused, passed, both_refused, both_passed}
use Rattle.record_layouts.specs.Questions.{first_failed}
use Rattle.year.specs.Year.{known}
use Rattle.question_list.specs.Questions.{q6, q7, q8, q9, q10, q17, q11, q20, q21, q12, q13, q14, q15, q16, questions}
use Rattle.question_setup.proofs.ask_clearing.Goals as goal

pub returns-in_err-ask_joining : goal.returns-in_err-ask_joining
unfolding first_failed questions q6 q7 q8 q9 q10 q17 q11 q20 q21 q12 q13 q14 q15 q16 known
returns-in_err-ask_joining c = λ l room. handed c.from_residual.result _ c.from_residual.ensures.1 (both_refused _ _ _ 6 7 _ c.in_err-ask_joining.ensures)

pub returns-in_err-ask : goal.returns-in_err-ask
unfolding first_failed questions q6 q7 q8 q9 q10 q17 q11 q20 q21 q12 q13 q14 q15 q16 known
returns-in_err-ask c =
    λ l room. handed c.from_residual-in_err-ask.result _ c.from_residual-in_err-ask.ensures.1 (both_passed _ _ 5 6 c.in_ok-ask_joining.ensures (refused _ _ 10 _ (rw c.registration_at-registration.ensures at c.in_err-ask.ensures)))

pub returns : goal.returns
unfolding first_failed questions q6 q7 q8 q9 q10 q17 q11 q20 q21 q12 q13 q14 q15 q16 known
returns c =
    λ l room. both_passed _ _ 5 6 c.in_ok-ask_joining.ensures (passed _ 9 (rw c.registration_at-registration.ensures at c.in_ok-ask.ensures) (rw c.clearings_at-clearings.ensures at c.ask-2.ensures))
