-- The amounts of the first k columns stand behind the id.
use Prim.Native.Nat.{◌≤◌}
use Rattle.ids.specs.Ids.{tabulate}
use Rattle.statement.specs.Statement.{amount_field}
use Rattle.statement.specs.WrittenFields.{WrittenFields}
use Rattle.statement.proofs.issue.put_line.Given as goal

abbrev pub invariant-loop-k : goal.invariant-loop-k
invariant-loop-k l = (l.k ≤ l.n) × WrittenFields l.initial.out l.out l.initial.r l.r (tabulate l.k (amount_field l.owed l.billed l.id))
