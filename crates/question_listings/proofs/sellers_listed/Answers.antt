-- `question_listings::sellers_listed` meets its contract. The invariant: the sellers of the entries so far are marked. Assumes nothing.
use mathlib.Core.Path.{◌∙◌}
use native.Mathlib.Omega.{arith}
use borrow.Author.Tests.{eq-eqb, ne_eqb}
use Rattle.ids.specs.Ids.{at}
use Rattle.year.specs.Year.{seller}
use Rattle.year.specs.Limits.{seller-below, size_is}
use Rattle.year_cells.specs.Layout.{listing_at, cell_terms}
use Rattle.year_cells.specs.Regions.{row_listed}
use Rattle.question_listings.specs.Passes.{marked-none, marked-same, marked_more, marked_all}
use Rattle.question_listings.proofs.sellers_listed.Goals as goal
use Rattle.question_listings.proofs.sellers_listed.Goals.{then-listing-i-ne0, else-listing-i-ne0}

pub loop-i-init : goal.loop-i-init
loop-i-init c = (omega arith, marked-none _ _)

pub bounds-sellers-s : goal.bounds-sellers-s
unfolding seller
bounds-sellers-s c = rw c.registration_at-r.ensures (seller-below c.args.year.now.valid.sound.terms c.loop-i.i)

pub loop-i-preserved : goal.loop-i-preserved
unfolding seller
loop-i-preserved c =
    let row = c.args.listing.now in
    let l = c.loop-i in
    let T = cell_terms c.args.year.now.cells in
    let small = seller-below c.args.year.now.valid.sound.terms l.i in
    let here = row_listed row {i = l.i} (omega arith) in (
      omega arith,
      elim c.if-listing-i-ne0.branch [
        | then-listing-i-ne0 w ↦ rw (w.sellers-is, w.registration_at-r.ensures) (marked_more T (listing_at (at row)) l.i l.invariant.1 (here ∙ rw (ne_eqb (at row l.i) 0 w.if-listing-i-ne0.true)) small)
        | else-listing-i-ne0 w ↦ rw w.sellers-is (marked-same T (listing_at (at row)) l.i l.invariant.1 (here ∙ rw (eq-eqb (at row l.i) 0 w.if-listing-i-ne0.false)))
      ],
    )

pub returns : goal.returns
returns c =
    marked_all (cell_terms c.args.year.now.cells) (listing_at (at c.args.listing.now)) c.loop-i.invariant.1 (omega (arith, size_is c.args.year.now.valid.sound.terms))
