-- Every number passed is within its limits; the first that is not settles the question.
use mathlib.Core.Path.{◌≡◌, refl, sym, ◌∙◌}
use native.Mathlib.Omega.{arith}
use lib.ListN.{length}
use Rattle.ids.specs.Ids.{at, all_to}
use Rattle.ids.specs.Tests.{all_more, all-fails}
use Rattle.record_layouts.specs.Parts.{between, within}
use Rattle.record_checks.proofs.limits.are_within.Goals as goal

pub loop-j-init : goal.loop-j-init
unfolding all_to
loop-j-init c = refl

pub returns-then-not-is_between : goal.returns-then-not-is_between
unfolding within
returns-then-not-is_between c =
    let a = c.args in
    let no = rw (c.from.ensures, c.from-in-loop-j.ensures) at (sym c.is_between.ensures) ∙ c.if-not-is_between.true in
    sym (all-fails (length a.lows.now) (λ j. between (at a.lows.now j) (at a.highs.now j) (at a.values.now j)) c.loop-j.j c.loop-j-test.true no)

pub loop-j-preserved : goal.loop-j-preserved
loop-j-preserved c =
    let a = c.args in
    let yes = rw (c.from.ensures, c.from-in-loop-j.ensures) at (sym c.is_between.ensures) ∙ c.if-not-is_between.false in
    all_more c.loop-j.j (λ j. between (at a.lows.now j) (at a.highs.now j) (at a.values.now j)) c.loop-j.invariant yes

pub returns : goal.returns
unfolding within
returns c =
    let n : c.loop-j.j ≡ length c.args.lows.now = omega arith in
    sym (rw n at c.loop-j.invariant)
