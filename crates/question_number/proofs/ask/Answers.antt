-- `question_number::ask` meets its contract, by kind. Assumes nothing.
use Rattle.record_layouts.specs.Questions.{first_failed}
use Rattle.record_heads.specs.Within.{Within}
use Rattle.question_list.specs.Questions.{q6, q7, q8, q9, q10, q17, q11, q20, q21, q12, q13, q14, q15, q16, questions}
use Rattle.question_number.proofs.ask.Goals as goal

pub ask_registration-requires : goal.ask_registration-requires
unfolding Within
ask_registration-requires c = rw c.in-Registration.is at c.requires.within

pub ask_lse-requires : goal.ask_lse-requires
unfolding Within
ask_lse-requires c = rw c.in-Lse.is at c.requires.within

pub ask_test-requires : goal.ask_test-requires
unfolding Within
ask_test-requires c = record { group_within = rw c.in-Test.is at c.requires.within }

pub ask_clearing-requires : goal.ask_clearing-requires
unfolding Within
ask_clearing-requires c = rw c.in-Clearing.is at c.requires.within

pub ask_retest-requires : goal.ask_retest-requires
unfolding Within
ask_retest-requires c = record { group_within = rw c.in-Retest.is at c.requires.within }

-- an opening is asked 6 alone
pub returns-in-Opening : goal.returns-in-Opening
unfolding first_failed questions q6 q7 q8 q9 q10 q17 q11 q20 q21 q12 q13 q14 q15 q16
returns-in-Opening c = rw c.in-Opening.is (rw c.opened.ensures at c.ask.ensures)

pub returns-in-Registration : goal.returns-in-Registration
returns-in-Registration c = rw c.in-Registration.is (c.ask_registration.ensures _ _)

pub returns-in-Lse : goal.returns-in-Lse
returns-in-Lse c = rw c.in-Lse.is (c.ask_lse.ensures _ _)

pub returns-in-Event : goal.returns-in-Event
returns-in-Event c = rw c.in-Event.is (c.ask_event.ensures _)

pub returns-in-Test : goal.returns-in-Test
returns-in-Test c = rw c.in-Test.is (c.ask_test.ensures _)

pub returns-in-Close : goal.returns-in-Close
returns-in-Close c = rw c.in-Close.is (c.ask_close.ensures _)

pub returns-in-Clearing : goal.returns-in-Clearing
returns-in-Clearing c = rw c.in-Clearing.is (c.ask_clearing.ensures _ _)

pub returns-in-Retest : goal.returns-in-Retest
returns-in-Retest c = rw c.in-Retest.is (c.ask_retest.ensures _)
