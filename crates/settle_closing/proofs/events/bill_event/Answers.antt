-- `settle_closing::events::bill_event` meets its contract: each pass finds what the one before it left. Assumes nothing.
use native.Mathlib.Omega.{arith}
use Rattle.settle_table.specs.Places.{off_u_row, off_peak_places}
use Rattle.settle_table.specs.Rows.{row-aside, row_within}
use Rattle.settle_closing.proofs.events.bill_event.Goals as goal

pub measure-requires-clause-row : goal.measure-requires-clause-row
measure-requires-clause-row c = row-aside (row_within off_u_row off_peak_places c.weigh.ensures.ready.fresh (omega arith) (omega arith)) c.share.ensures.aside (λ j l x y. omega arith)
