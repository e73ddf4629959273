-- `year_tested::tested_in` meets its contract. Assumes nothing.
use Prim.Native.Nat.{◌<◌}
use mathlib.Core.Path.{◌≡◌, sym, ◌∙◌}
use native.Mathlib.Omega.{arith}
use borrow.Author.Tests.{eq-eqb, ne_eqb}
use Rattle.limits.specs.Limits.{zones, products}
use Rattle.year.specs.Year.{zone, product}
use Rattle.year.specs.Limits.{zone-below, product-below}
use Rattle.year_cells.specs.Layout.{group_in}
use Rattle.year_tested.specs.Tested.{tested-in}
use Rattle.year_tested.proofs.tested_in.Goals as goal
use Rattle.year_tested.proofs.tested_in.Goals.{After-group_of-own, After-registration_at-r}

-- the registration's zone, product and group
zone-most : (c : After-registration_at-r) → c.registration_at-r.result.zone < zones
unfolding zone
zone-most c = rw c.registration_at-r.ensures (zone-below c.args.year.now.valid.sound.terms c.args.i)

product-most : (c : After-registration_at-r) → c.registration_at-r.result.product < products
unfolding product
product-most c = rw c.registration_at-r.ensures (product-below c.args.year.now.valid.sound.terms c.args.i)

group-is : (c : After-group_of-own) → c.group_of-own.result ≡ group_in c.args.year.now.cells c.args.i
unfolding group_in zone product
group-is c = rw c.registration_at-r.ensures at c.group_of-own.ensures

pub group_of-own-requires : goal.group_of-own-requires
group_of-own-requires c = omega (arith, zone-most c, product-most c)

pub returns-then-year-i-ne0 : goal.returns-then-year-i-ne0
returns-then-year-i-ne0 c =
    rw (group-is (goal.at.returns-then-year-i-ne0 c).After-group_of-own) (sym (tested-in c.args.year.now.cells c.args.year.now.valid.sound c.args.group c.requires.i_lt_registrations ∙ rw (ne_eqb _ 0 c.if-year-i-ne0.true)))

pub returns-else-year-i-ne0 : goal.returns-else-year-i-ne0
returns-else-year-i-ne0 c =
    sym (tested-in c.args.year.now.cells c.args.year.now.valid.sound c.args.group c.requires.i_lt_registrations ∙ rw (eq-eqb _ 0 c.if-year-i-ne0.false))
