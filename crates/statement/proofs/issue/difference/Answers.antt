-- `statement::difference` meets its contract.
use native.Mathlib.Omega.{arith}
use Rattle.statement.specs.Statement.{difference}
use Rattle.statement.proofs.issue.difference.Goals as goal

pub returns : goal.returns
unfolding difference
returns c = omega arith
