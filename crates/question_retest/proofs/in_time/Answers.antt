-- `question_retest::in_time` meets its contract. Assumes nothing.
use Rattle.std.specs.Prelude.{not}
use mathlib.Core.Path.{sym, ap}
use Rattle.question_list.specs.Answers.{yes, no}
use Rattle.question_retest.proofs.in_time.Goals as goal

pub returns-then-not-may_test : goal.returns-then-not-may_test
returns-then-not-may_test c = rw (no c.may_test.ensures (ap not c.if-not-may_test.true))

pub returns-then-not-test_taken : goal.returns-then-not-test_taken
returns-then-not-test_taken c =
    let taken = rw c.group_of-group.ensures at c.test_taken.ensures in
    rw (yes c.may_test.ensures (ap not c.if-not-may_test.false), no taken (ap not c.if-not-test_taken.true))

pub returns : goal.returns
returns c =
    let group = c.group_of-group.ensures in
    let taken = rw group at c.test_taken.ensures in
    rw (yes c.may_test.ensures (ap not c.if-not-may_test.false), yes taken (ap not c.if-not-test_taken.false), sym (rw group at c.test_month.ensures))
