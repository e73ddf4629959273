-- The lists passed are in the row.
use Rattle.ids.specs.Ids.{at}
use Rattle.record_heads.specs.Record.{listing_to}
use Rattle.record_listing.specs.Spread.{Spreads}
use Rattle.record_listing.proofs.spread.Given as goal

abbrev pub invariant-loop-i : goal.invariant-loop-i
invariant-loop-i l = Spreads (listing_to (at l.values 0) l.values l.i) l.row
