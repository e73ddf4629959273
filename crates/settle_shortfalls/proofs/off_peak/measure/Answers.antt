-- `settle_shortfalls::off_peak::measure` meets its contract: sums, shortfalls and shares one after the other, or nothing where the event is not dual. Assumes nothing.
use mathlib.Core.Path.{sym, ◌∙◌}
use native.Mathlib.Omega.{arith}
use Rattle.limits.specs.Limits.{registrations}
use Rattle.settle_facts.specs.CellFacts.{facts}
use Rattle.settle_table.specs.Places.{off_u_row, off_short_row}
use Rattle.settle_table.specs.Rows.{aside_none, row-aside, row_within}
use Rattle.settle_shortfalls.specs.OffPeak.{sum_places, netted-all, measured-none}
use Rattle.settle_shortfalls.proofs.off_peak.measure.Goals as goal

pub sums-requires-clause-row : goal.sums-requires-clause-row
sums-requires-clause-row c = row_within off_short_row sum_places c.requires.row (omega arith) (omega arith)

pub share-requires-clause-ready : goal.share-requires-clause-ready
share-requires-clause-ready c =
    let n = c.nets.ensures in
    let fresh = row_within off_u_row registrations c.requires.row (omega arith) (omega arith) in netted-all n.netted (row-aside (row-aside fresh c.sums.ensures.aside (λ j l x y. omega arith)) n.aside (λ j l x y. omega arith))

pub returns-else-is_dual : goal.returns-else-is_dual
returns-else-is_dual c =
    let none = measured-none (facts c.args.year.now.cells) c.args.ev (sym c.is_dual.ensures ∙ c.if-is_dual.false) c.requires.row in record { shares = none.0; divisions = none.1; aside = aside_none }
