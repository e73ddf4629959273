-- `statement::put_parties` meets its contract: the lines of the one kind behind those of the other.
use native.Mathlib.Omega.{arith}
use Rattle.ids.specs.Ids.{holds}
use Rattle.limits.specs.Limits.{parties}
use Rattle.statement.specs.Lines.{lines-room}
use Rattle.statement.specs.Columns.{columns-sound}
use Rattle.statement.specs.WrittenFields.{more-fields}
use Rattle.statement.proofs.issue.put_parties.Goals as goal

pub put_lines-lines-requires : goal.put_lines-lines-requires
put_lines-lines-requires c =
    let h = c.requires in
    record { columns = (rw c.columns.ensures (columns-sound h.sound_amounts.0), rw c.columns-2.ensures (columns-sound h.sound_amounts.1)); parties_bound = omega (arith, h) }

pub put_lines-requires : goal.put_lines-requires
put_lines-requires c =
    let w = c.put_lines-lines.ensures.wrote in
    let room = lines-room 3 c.columns.result c.columns-2.result (holds c.args.sellers) parties 17 (omega arith) in
    record { columns = (c.requires.sound_amounts.0.lse, c.requires.sound_amounts.1.lse); parties_bound = omega (arith, w.ends, w.long, c.requires) }

pub returns : goal.returns
returns c =
    more-fields
    (rw (c.columns.ensures, c.columns-2.ensures) at c.put_lines-lines.ensures)
    c.put_lines.ensures
