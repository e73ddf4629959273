-- `settle_lses::credit_lses` meets its contract: share by share, and none for an id without an obligation.
use mathlib.Core.Path.{◌∙◌}
use native.Mathlib.Omega.{arith}
use lib.Dec.{lit<}
use Rattle.allotment.specs.Stepper.{before-first, share-asks, divisions-made}
use Rattle.owed.specs.Divisions.{lse_divisions}
use Rattle.owed_laws.specs.Limits.{limits}
use Rattle.owed_laws.specs.Totals.{obligations-le}
use Rattle.settle_table.specs.Rows.{aside_none, renewed-first}
use Rattle.settle_lses.specs.Lses.{obligations}
use Rattle.settle_lses.proofs.Begun.{begun-none, begun-more}
use Rattle.settle_lses.proofs.credit_lses.Goals as goal

pub sum-obligations-requires : goal.sum-obligations-requires
sum-obligations-requires c = (omega arith, omega (arith, obligations c.args.year.now.cells, obligations-le (limits c.args.year.now.valid.sound)))

pub loop-j-init : goal.loop-j-init
loop-j-init c =
    record {
      upto = omega arith;
      long = c.told-work;
      aside = aside_none;
      carried = before-first c.net_of.ensures (c.sum-obligations.ensures ∙ obligations c.args.year.now.cells) c.new-allotment.ensures;
      renewed = renewed-first _ c.requires.empty;
    }

pub share-share-requires : goal.share-share-requires
share-share-requires c = share-asks c.loop-j.invariant.carried (omega arith) (lit< tt) c.obligation_of-weight.ensures c.requires.year_bound

pub loop-j-preserved-then-not-known : goal.loop-j-preserved-then-not-known
loop-j-preserved-then-not-known c = begun-none c.loop-j.invariant (omega arith) c.obligation_of-weight.ensures c.if-not-known.true

pub loop-j-preserved : goal.loop-j-preserved
loop-j-preserved c = begun-more c.loop-j.invariant (omega arith) c.obligation_of-weight.ensures c.if-not-known.false c.share-share.ensures c.put.ensures

pub returns-clause-divisions : goal.returns-clause-divisions
unfolding lse_divisions
returns-clause-divisions c = divisions-made c.loop-j.invariant.carried (omega arith)
