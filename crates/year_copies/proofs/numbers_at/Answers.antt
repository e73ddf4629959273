-- `year_copies::numbers_at` meets its contract: number i of what is copied is the one at place p + i. Assumes nothing.
use Rattle.std.proofs.Common.{◌+◌, ◌-◌, ◌∙◌, arith, get_or-take, get_or-drop}
use Rattle.ids.specs.Tables.{is-tabulate}
use Rattle.limits.specs.Limits.{parties}
use Rattle.year_cells.specs.Rows.{from}
use Rattle.year_copies.proofs.numbers_at.Goals as goal

pub returns : goal.returns
returns c =
    let copied = c.copy_from_slice in
    let p = c.args.p in
    is-tabulate (from p c.args.cells.now) parties 0 copied.new.self copied.ensures.len
    (λ i l. rw copied.ensures.after (get_or-take (p + 16 - p) _ i 0 (omega arith) ∙ get_or-drop p c.args.cells.now i 0))
