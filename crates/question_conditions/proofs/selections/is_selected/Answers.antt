-- `question_conditions::selections::is_selected` meets its contract, by the selection. Assumes nothing.
use mathlib.Core.Path.{sym}
use Rattle.year.specs.Year.{known, zone, product}
use Rattle.question_conditions.specs.Entries.{in_group}
use Rattle.question_conditions.proofs.selections.is_selected.Goals as goal

pub returns-in-Known : goal.returns-in-Known
unfolding known
returns-in-Known c = rw (c.in-Known.is, c.registration_at-r.ensures)

pub returns-then-in_group : goal.returns-then-in_group
unfolding in_group known zone product
returns-then-in_group c =
    let r = c.registration_at-r.ensures in
    rw (c.in-Undispatched.is, sym (rw r at c.in_group.ensures), c.if-in_group.true, sym c.is_dispatched.ensures)

pub returns-else-in_group : goal.returns-else-in_group
unfolding in_group known zone product
returns-else-in_group c =
    let r = c.registration_at-r.ensures in
    rw (c.in-Undispatched.is, sym (rw r at c.in_group.ensures), c.if-in_group.false)

pub returns-in-Tested : goal.returns-in-Tested
returns-in-Tested c = rw c.in-Tested.is c.is_entry.ensures

pub returns-in-Failed : goal.returns-in-Failed
returns-in-Failed c = rw c.in-Failed.is c.has_failed.ensures

pub returns-in-Retested : goal.returns-in-Retested
returns-in-Retested c = rw c.in-Retested.is c.is_retested.ensures
