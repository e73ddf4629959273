-- `settle_tests::test_of` meets its contract: group by group.
use Prim.Native.Nat.{ℕ}
use mathlib.Core.Path.{◌≡◌, sym, ◌∙◌}
use native.Mathlib.Omega.{arith}
use Rattle.ids.specs.Sums.{sum_step}
use Rattle.owed.specs.Facts.{Facts}
use Rattle.limits.specs.Limits.{test_groups}
use Rattle.owed.specs.Owed.{D, test_charge, test}
use Rattle.owed_laws.specs.Limits.{limits}
use Rattle.owed_laws.specs.Bounds.{D-le, test-le}
use Rattle.owed_laws.specs.Totals.{test-most}
use Rattle.settle_facts.specs.CellFacts.{facts}
use Rattle.settle_tests.specs.Entries.{untaken}
use Rattle.settle_tests.specs.Sums.{charge_over}
use Rattle.settle_tests.proofs.test_of.Goals as goal
use Rattle.settle_tests.proofs.test_of.Goals.{then-test_taken, else-test_taken}

pub charge_of-sum-requires-clause-group_lt_test_groups : goal.charge_of-sum-requires-clause-group_lt_test_groups
charge_of-sum-requires-clause-group_lt_test_groups c = (omega arith, c.requires.s_lt_sellers.0, rw c.days_to-days.ensures (D-le (limits c.args.year.now.valid.sound) c.args.k))

-- the charge is the test's
is-charge : (F : Facts) (k p s : ℕ) {r d : ℕ} → r ≡ charge_over F p s d → d ≡ D F k → r ≡ test_charge F k p s
unfolding test_charge
is-charge F k p s e f = e ∙ rw f

pub overflow_add-sum : goal.overflow_add-sum
overflow_add-sum c =
    let l = c.loop-group in
    let L = limits c.args.year.now.valid.sound in
    record { fits = omega (arith, l.invariant.1, is-charge (facts c.args.year.now.cells) c.args.k l.group c.args.s c.charge_of-sum.ensures c.days_to-days.ensures, test-le L c.args.k l.group c.args.s, test-most L c.args.k l.group c.args.s l.invariant.0) }

pub loop-group-preserved : goal.loop-group-preserved
loop-group-preserved c =
    let y = c.args.year.now.cells in
    let l = c.loop-group in
    let step = sum_step l.group (λ p. test_charge (facts y) c.args.k p c.args.s) in
    elim c.if-test_taken.branch [
      | then-test_taken w ↦ rw w.sum-is (omega arith, omega (arith, l.invariant.1, is-charge (facts y) c.args.k l.group c.args.s w.charge_of-sum.ensures c.days_to-days.ensures, step))
      | else-test_taken w ↦ rw w.sum-is (omega arith, omega (arith, l.invariant.1, untaken y c.loop-group-test.true c.args.year.now.valid (sym c.test_taken.ensures ∙ w.if-test_taken.false) c.args.k c.args.s, step))
    ]

pub returns : goal.returns
unfolding test
returns c =
    let l = c.loop-group in
    let all : l.group ≡ test_groups = omega arith in
    rw all at l.invariant.1
