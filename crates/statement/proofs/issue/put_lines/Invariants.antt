-- `statement::put_lines` meets its contract. The loop's invariant: the lines of the marked parties before id are written.
use Rattle.ids.specs.Ids.{holds}
use Rattle.statement.specs.Statement.{line_fields, lines_to}
use Rattle.statement.specs.WrittenFields.{WrittenFields}
use Rattle.statement.proofs.issue.put_lines.Given as goal

abbrev pub invariant-loop-id : goal.invariant-loop-id
invariant-loop-id l =
    WrittenFields l.initial.out l.out l.initial.r l.r (lines_to l.id (holds l.fn.marks) (line_fields l.n l.owed l.billed))
