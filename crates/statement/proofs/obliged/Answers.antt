-- `statement::obliged` meets its contract: each mark is what the test says of its obligation.
use mathlib.Core.Bool.{false}
use native.Mathlib.Omega.{arith}
use Rattle.std.proofs.Common.{rules}
use Rattle.year.specs.Year.{obligation}
use Rattle.statement.specs.Statement.{has_obligation}
use Rattle.statement.proofs.obliged.Goals as goal

pub returns : goal.returns
unfolding has_obligation obligation
returns c =
    let m = c.map.ensures.items in
    record { upto = omega arith; long = m.long; done = λ j l. search (rules, (m.at j 0 false l).2.met) }
