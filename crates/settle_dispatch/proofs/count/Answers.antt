-- `settle_dispatch::count` meets its contract. The loop's invariant: the events before ev are counted. Assumes nothing.
use Rattle.std.proofs.Common.{◌≡◌, arith}
use Rattle.settle_facts.specs.CellFacts.{facts}
use Rattle.settle_table.specs.Rows.{aside_none}
use Rattle.settle_dispatch.specs.Counting.{counting-first, dispatch-count-all, dispatched-all}
use Rattle.settle_dispatch.proofs.count.Goals as goal

pub loop-ev-init : goal.loop-ev-init
loop-ev-init c = record { counting = counting-first (facts c.args.year.now.cells) c.told-work c.requires.row; aside = aside_none }

pub returns : goal.returns
returns c =
    let l = c.loop-ev in
    let z : l.ev ≡ (facts c.args.year.now.cells).events = omega (arith, c.events_accepted-accepted.ensures) in
    let h = rw z at l.invariant.counting in record { dispatch_count = dispatch-count-all h; dispatched = dispatched-all h; aside = l.invariant.aside }
