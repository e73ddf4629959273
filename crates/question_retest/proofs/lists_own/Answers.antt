-- `question_retest::lists_own` meets its contract. Assumes nothing.
use mathlib.Core.Path.{sym}
use Rattle.question_retest.proofs.lists_own.Goals as goal

pub returns-then-every_listed : goal.returns-then-every_listed
returns-then-every_listed c = rw (sym c.every_listed.ensures, c.if-every_listed.true) c.every_listed-then-every_listed.ensures

pub returns-else-every_listed : goal.returns-else-every_listed
returns-else-every_listed c = rw (sym c.every_listed.ensures, c.if-every_listed.false)
