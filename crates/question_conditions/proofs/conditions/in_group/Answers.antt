-- `question_conditions::conditions::in_group` meets its contract. Assumes nothing.
use borrow.Author.Tests.{eq-eqb, ne_eqb}
use Rattle.question_conditions.proofs.conditions.in_group.Goals as goal

pub returns-then-r-zone : goal.returns-then-r-zone
returns-then-r-zone c = rw (c.if-r.true, eq-eqb _ _ c.if-r-zone.true)

pub returns-else-r-zone : goal.returns-else-r-zone
returns-else-r-zone c = rw (c.if-r.true, ne_eqb _ _ c.if-r-zone.false)
