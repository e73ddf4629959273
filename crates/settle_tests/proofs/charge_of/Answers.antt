-- `settle_tests::charge_of` meets its contract: the sums of the group and seller are the test's, and within their limits.
use Prim.Native.Nat.{◌*◌, ◌≤◌}
use mathlib.Core.Path.{◌≡◌, ap, ◌∙◌}
use native.Mathlib.Omega.{arith}
use native.Mathlib.Nat.{mul-le-mul}
use Rattle.owed.specs.Owed.{raised, test_shortfall, B}
use Rattle.owed.specs.Owed as owed
use Rattle.owed_laws.specs.Limits.{limits}
use Rattle.owed_laws.specs.Bounds.{shortfall-le, raised-le}
use Rattle.settle_facts.specs.CellFacts.{facts}
use Rattle.settle_tests.specs.Sums.{shortfall-is, base-is}
use Rattle.year.specs.Year.{deficit}
use Rattle.settle_tests.proofs.charge_of.Goals as goal
use Rattle.settle_tests.proofs.charge_of.Goals.{After-rate_of-rate}

-- the shortfall and the rate, as the rules have them
module _ (c : After-rate_of-rate) where
  short : c.shortfall-shortfall.result.0 ≡ test_shortfall (facts c.args.year.now.cells) c.args.group c.args.s
  short =
      c.shortfall-shortfall.ensures
      ∙ rw c.deficit_of-deficit.ensures (shortfall-is c.args.year.now.valid c.requires.group_lt_test_groups.0 c.requires.group_lt_test_groups.1 c.requires.summed c.sum-committed.ensures c.sum-reduction.ensures)

  rate : c.rate_of-rate.result ≡ raised (B (facts c.args.year.now.cells) c.args.group c.args.s)
  rate = c.rate_of-rate.ensures ∙ ap raised (base-is c.args.year.now.valid c.requires.group_lt_test_groups.0 c.requires.group_lt_test_groups.1 c.requires.summed c.sum-committed.ensures)

  product_le : c.shortfall-shortfall.result.0 * c.rate_of-rate.result ≤ 1105920000000
  product_le =
      let F = facts c.args.year.now.cells in
      let L = limits c.args.year.now.valid.sound in
      rw (short, rate) (mul-le-mul (shortfall-le L (owed.stands F c.args.group) (owed.result F c.args.group) (deficit (F.test c.args.group).listing) c.args.s) (raised-le L c.args.group c.args.s))

pub overflow_mul-result : goal.overflow_mul-result
overflow_mul-result c = record { fits = omega (arith, product_le (goal.at.overflow_mul-result c).After-rate_of-rate) }

pub overflow_mul-result-2 : goal.overflow_mul-result-2
overflow_mul-result-2 c = record { fits = omega (arith, mul-le-mul (product_le (goal.at.overflow_mul-result-2 c).After-rate_of-rate) c.requires.group_lt_test_groups.2) }

pub returns : goal.returns
returns c = rw (short (goal.at.returns c).After-rate_of-rate, rate (goal.at.returns c).After-rate_of-rate)
