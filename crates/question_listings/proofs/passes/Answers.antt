-- `question_listings::passes` meets its contract. Assumes nothing.
use borrow.Author.Tests.{eq-eqb, ne_eqb}
use Rattle.ids.specs.Ids.{at}
use Rattle.year_cells.specs.Regions.{row_listed}
use Rattle.question_listings.proofs.passes.Goals as goal

pub returns-then-listing-i-eq0 : goal.returns-then-listing-i-eq0
returns-then-listing-i-eq0 c =
    let row = c.args.listing.now in
    rw (row_listed row c.requires.i_lt_registrations, eq-eqb (at row c.args.i) 0 c.if-listing-i-eq0.true)

pub returns : goal.returns
returns c =
    let row = c.args.listing.now in
    rw (row_listed row c.requires.i_lt_registrations, ne_eqb (at row c.args.i) 0 c.if-listing-i-eq0.false) c.meets.ensures
