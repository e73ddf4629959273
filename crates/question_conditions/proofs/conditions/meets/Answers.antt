-- `question_conditions::conditions::meets` meets its contract, by the condition. Assumes nothing.
use Rattle.year.specs.Year.{known, seller, area, zone, product}
use Rattle.question_conditions.specs.Entries.{in_area, in_group}
use Rattle.question_conditions.proofs.conditions.meets.Goals as goal

pub returns-then-r : goal.returns-then-r
unfolding in_area known area
returns-then-r c =
    let r = c.registration_at-r.ensures in
    rw (c.in-InArea.is, r, rw r at c.if-r.true)

pub returns-else-r : goal.returns-else-r
unfolding in_area known
returns-else-r c =
    let r = c.registration_at-r.ensures in
    rw (c.in-InArea.is, r, rw r at c.if-r.false)

pub returns-in-InGroup : goal.returns-in-InGroup
unfolding in_group known zone product
returns-in-InGroup c = rw c.in-InGroup.is (rw c.registration_at-r.ensures at c.in_group.ensures)

pub returns-in-OfSeller : goal.returns-in-OfSeller
unfolding seller
returns-in-OfSeller c = rw (c.in-OfSeller.is, c.registration_at-r.ensures)

pub returns-in-Callable : goal.returns-in-Callable
unfolding product
returns-in-Callable c = rw c.in-Callable.is (rw c.registration_at-r.ensures at c.callable.ensures)
