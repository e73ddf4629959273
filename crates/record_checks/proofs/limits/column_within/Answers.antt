-- Every number passed is within the limits; the first that is not settles the question.
use mathlib.Core.Path.{◌≡◌, refl, sym, ◌∙◌}
use Prim.Native.Nat.{◌+◌, ◌*◌}
use native.Mathlib.Omega.{arith}
use Rattle.ids.specs.Ids.{at, all_to}
use Rattle.ids.specs.Tests.{all_more, all-fails}
use Rattle.record_layouts.specs.Parts.{between, column_within}
use Rattle.record_layouts.specs.ListLaws.{column-held}
use Rattle.record_checks.proofs.limits.column_within.Goals as goal

-- the limits hold all numbers that the fields do
pub returns-then-hold_all : goal.returns-then-hold_all
returns-then-hold_all c =
    let a = c.args in
    sym (column-held a.low a.high a.width a.values.now a.column.from a.column.stride a.column.n (sym c.hold_all.ensures ∙ c.if-hold_all.true) (c.requires.column_fits c.if-read.true))

pub loop-k-init : goal.loop-k-init
unfolding all_to
loop-k-init c = (omega arith, refl)

pub returns-then-not-is_between : goal.returns-then-not-is_between
unfolding column_within
returns-then-not-is_between c =
    let a = c.args in
    let no = rw c.loop-k.invariant.0 at (sym c.is_between.ensures) ∙ c.if-not-is_between.true in
    sym (all-fails a.column.n (λ j. between a.low a.high (at a.values.now (a.column.from + j * a.column.stride))) c.loop-k.k c.loop-k-test.true no)

pub loop-k-preserved : goal.loop-k-preserved
loop-k-preserved c =
    let a = c.args in
    let l = c.loop-k in
    let yes = rw l.invariant.0 at (sym c.is_between.ensures) ∙ c.if-not-is_between.false in
    (omega arith, all_more l.k (λ j. between a.low a.high (at a.values.now (a.column.from + j * a.column.stride))) l.invariant.1 yes)

pub returns : goal.returns
unfolding column_within
returns c =
    let n : c.loop-k.k ≡ c.args.column.n = omega arith in
    sym (rw n at c.loop-k.invariant.1)
