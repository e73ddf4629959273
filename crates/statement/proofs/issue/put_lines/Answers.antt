-- `statement::put_lines` meets its contract. The loop's invariant: the lines of the marked parties before id are written.
use native.Mathlib.Omega.{arith}
use Rattle.ids.specs.Ids.{holds}
use Rattle.limits.specs.Limits.{parties}
use Rattle.statement.specs.Statement.{line_fields, lines_to}
use Rattle.statement.specs.Lines.{lines-room}
use Rattle.statement.specs.WrittenFields.{no_fields, line-more, line-skip}
use Rattle.statement.proofs.issue.put_lines.Goals as goal
use Rattle.statement.proofs.issue.put_lines.Goals.{then-marked, else-marked}

pub loop-id-init : goal.loop-id-init
unfolding lines_to
loop-id-init c = no_fields

pub put_line-r-requires : goal.put_line-r-requires
put_line-r-requires c =
    let w = c.loop-id.invariant.wrote in
    let room = lines-room c.args.n c.args.owed.now c.args.billed.now (holds c.args.marks) c.loop-id.id parties (omega arith) in
    record { id_lt_parties = omega arith; columns = c.requires.columns; n_bound = omega (arith, w.ends, w.long) }

pub loop-id-preserved : goal.loop-id-preserved
loop-id-preserved c =
    let marked = holds c.args.marks in
    let line = line_fields c.args.n c.args.owed.now c.args.billed.now in
    elim c.if-marked.branch [
      | then-marked w ↦ rw (w.out-is, w.r-is) (line-more marked line c.loop-id.id c.loop-id.invariant w.if-marked.true w.put_line-r.ensures)
      | else-marked w ↦ rw (w.out-is, w.r-is) (line-skip marked line c.loop-id.id c.loop-id.invariant w.if-marked.false)
    ]
