-- `settle_closing::events::bill_events` meets its contract. The loop's invariant: the events before ev are billed. Assumes nothing.
use mathlib.Core.Path.{◌≡◌}
use native.Mathlib.Omega.{arith}
use Rattle.settle_charges.specs.Charging.{billed-all}
use Rattle.settle_credits.specs.Crediting.{credit-all}
use Rattle.settle_facts.specs.CellFacts.{facts}
use Rattle.settle_table.specs.Rows.{aside_none}
use Rattle.settle_closing.specs.Passes.{Run, run-first}
use Rattle.settle_closing.proofs.events.bill_events.Goals as goal
use Rattle.settle_closing.proofs.events.bill_events.Goals.{After-loop-ev}

pub loop-ev-init : goal.loop-ev-init
loop-ev-init c =
    let k = c.count.ensures in
    (omega arith, (run-first c.args.k c.requires.columns c.requires.row k.aside k.dispatch_count k.dispatched, aside_none))

-- past the last event
all : (c : After-loop-ev) → Run (facts c.args.year.now.cells) c.args.k (facts c.args.year.now.cells).events c.loop-ev.work
all c = let z : c.loop-ev.ev ≡ (facts c.args.year.now.cells).events = omega (arith, c.events_accepted-ev-end.ensures) in rw z at c.loop-ev.invariant.1.0

pub returns-clause-compliance : goal.returns-clause-compliance
returns-clause-compliance c = billed-all (all c).billed

pub returns-clause-credit : goal.returns-clause-credit
returns-clause-credit c = credit-all (facts c.args.year.now.cells) c.args.k (all c).credit
