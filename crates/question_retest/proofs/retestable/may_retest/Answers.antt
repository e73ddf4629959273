-- `question_retest::retestable::may_retest` meets its contract. Assumes nothing.
use Rattle.std.specs.Prelude.{not}
use mathlib.Core.Path.{sym, ◌∙◌, ap}
use Rattle.limits.specs.Limits.{registrations}
use Rattle.year.specs.Limits.{committed-sum}
use Rattle.year_cells.specs.Layout.{year_in}
use Rattle.question_conditions.specs.declared.Selection.TheVariants.{Failed}
use Rattle.question_conditions.specs.Selects.{selects}
use Rattle.question_list.specs.Answers.{yes, no}
use Rattle.owed.specs.Retests.{tested_kw, failed_kw, had_retest}
use Rattle.question_retest.proofs.retestable.may_retest.Goals as goal

pub returns-then-not-test_taken : goal.returns-then-not-test_taken
returns-then-not-test_taken c =
    let taken = rw c.group_of-group.ensures at c.test_taken.ensures in
    rw (no taken (ap not c.if-not-test_taken.true))

pub returns-then-any_selected : goal.returns-then-any_selected
unfolding had_retest
returns-then-any_selected c =
    let group = c.group_of-group.ensures in
    let taken = rw group at c.test_taken.ensures in
    let had = rw group at c.any_selected.ensures in
    rw (yes taken (ap not c.if-not-test_taken.false), sym had ∙ c.if-any_selected.true)

pub below_quarter-requires : goal.below_quarter-requires
below_quarter-requires c =
    rw c.committed_kw-failed.ensures (committed-sum c.args.year.now.valid.sound.terms (selects (year_in c.args.year.now.cells) (Failed c.group_of-group.result c.args.t.seller)) registrations)

pub returns : goal.returns
unfolding had_retest failed_kw tested_kw
returns c =
    let group = c.group_of-group.ensures in
    let taken = rw group at c.test_taken.ensures in
    let had = rw group at c.any_selected.ensures in
    let failed = rw group at c.committed_kw-failed.ensures in
    let tested = rw group at c.committed_kw-tested.ensures in
    rw (yes taken (ap not c.if-not-test_taken.false), sym had ∙ c.if-any_selected.false, sym failed, sym tested) c.below_quarter.ensures
