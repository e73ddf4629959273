-- `days` meets its contract: the table agrees with the definition, by one test that antt computes over its rows.
use Prim.Native.Nat.{ℕ, ◌-◌, ◌<◌, min}
use mathlib.Core.Path.{◌≡◌, refl}
use native.Mathlib.Omega.{arith}
use lib.Dec.{eqb}
use lib.ListN.{get_or}
use borrow.Author.Rules.{rules}
use borrow.Author.Tests.{le-leb, lt-leb, eqb-true}
use Rattle.ids.specs.Ids.{all_to}
use Rattle.ids.specs.Tests.{all-at}
use Rattle.calendar.specs.declared.TheConstants.{MONTH_ENDS}
use Rattle.calendar.specs.Calendar.{days, month_ends, month-end-le}
use Rattle.calendar.proofs.days.Goals as goal

-- each month's row is the definition's
row-right : (m : ℕ) → m < 16 → get_or MONTH_ENDS (m - 1) 0 ≡ get_or month_ends (min m 12 - 1) 0
unfolding all_to
row-right m l =
    eqb-true (get_or MONTH_ENDS (m - 1) 0) (get_or month_ends (min m 12 - 1) 0)
    (all-at 16 (λ m. eqb (get_or MONTH_ENDS (m - 1) 0) (get_or month_ends (min m 12 - 1) 0)) refl m l)

pub returns-then-month-lt9 : goal.returns-then-month-lt9
unfolding days
returns-then-month-lt9 c = rw (lt-leb 9 c.args.month (omega arith)) (omega (arith, row-right c.args.month (search rules)))

pub returns-else-month-lt9 : goal.returns-else-month-lt9
unfolding days
returns-else-month-lt9 c = rw (le-leb 9 c.args.month (omega arith)) (omega (arith, row-right c.args.month (search rules)))

pub overflow_add-result : goal.overflow_add-result
overflow_add-result c = omega (arith, row-right c.args.month (search rules), month-end-le c.args.month)
