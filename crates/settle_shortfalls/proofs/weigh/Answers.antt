-- `settle_shortfalls::weigh` meets its contract: the event's rows are cleared, then filled. Assumes nothing.
use native.Mathlib.Omega.{arith}
use Rattle.settle_table.specs.Places.{u_row, later_places}
use Rattle.settle_table.specs.Rows.{row-aside, row_within}
use Rattle.settle_shortfalls.specs.Weighing.{netted-all}
use Rattle.settle_shortfalls.proofs.weigh.Goals as goal

pub returns-clause-ready : goal.returns-clause-ready
returns-clause-ready c =
    let g = c.sums.ensures in
    let a = c.nets.ensures in
    let z = row_within u_row later_places c.zero.ensures.zeros (omega arith) (omega arith) in netted-all a.netted (row-aside (row-aside z g.aside (λ j l x y. omega arith)) a.aside (λ j l x y. omega arith))
