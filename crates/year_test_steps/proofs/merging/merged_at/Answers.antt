-- `year_test_steps::merging::merged_at` meets its contract. Assumes nothing.
use Rattle.ids.specs.Ids.{at}
use borrow.Author.Tests.{eq-eqb, ne_eqb}
use Rattle.year_test_steps.proofs.merging.merged_at.Goals as goal

pub returns-then-listing-i-ne0 : goal.returns-then-listing-i-ne0
returns-then-listing-i-ne0 c = let a = c.args in rw (ne_eqb (at a.listing.now a.i) 0 c.if-listing-i-ne0.true)

pub returns : goal.returns
returns c = let a = c.args in rw (eq-eqb (at a.listing.now a.i) 0 c.if-listing-i-ne0.false)
