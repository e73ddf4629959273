-- `settle_tests::sums::standing` meets its contract: the entries so far.
use mathlib.Core.Bool.{false}
use native.Mathlib.Omega.{arith}
use Rattle.ids.specs.Tables.{is-tabulate}
use Rattle.limits.specs.Limits.{registrations}
use Rattle.settle_tests.specs.Entries.{stands}
use Rattle.settle_tests.proofs.sums.standing.Goals as goal

pub returns : goal.returns
returns c = is-tabulate (stands c.args.year.now.cells) registrations false _ c.loop-i-test.array_long (λ i m. c.loop-i.invariant i (omega arith))
