-- `settle_closing::settle` meets its contract: each registration that is lent is the year's, and goes into a table of zeros. Assumes nothing.
use Rattle.std.proofs.Common.{arith}
use Rattle.settle_rates.specs.Entering.{begun_first}
use Rattle.settle_closing.proofs.settle.Goals as goal

pub loop-i-init : goal.loop-i-init
loop-i-init c = (omega arith, begun_first c.args.year.now.cells)
