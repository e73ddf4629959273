-- `question_listings::sellers_listed` meets its contract. The invariant: the sellers of the entries so far are marked. Assumes nothing.
use Prim.Native.Nat.{◌≤◌}
use Rattle.ids.specs.Ids.{at}
use Rattle.limits.specs.Limits.{registrations}
use Rattle.year_cells.specs.Layout.{listing_at, cell_terms}
use Rattle.question_listings.specs.Passes.{Marked}
use Rattle.question_listings.proofs.sellers_listed.Given as goal

abbrev pub invariant-loop-i : goal.invariant-loop-i
invariant-loop-i l = (l.i ≤ registrations) × Marked (cell_terms l.year.cells) (listing_at (at l.listing)) l.sellers l.i
