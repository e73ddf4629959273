-- Every field passed is within its limits in each item; the first that is not settles the question.
use mathlib.Core.Path.{◌≡◌, refl, sym, ◌∙◌}
use Prim.Native.Nat.{◌+◌}
use native.Mathlib.Omega.{arith}
use lib.ListN.{length}
use Rattle.ids.specs.Ids.{at, all_to}
use Rattle.ids.specs.Tests.{all_more, all-fails}
use Rattle.bits.specs.TableLaws.{width-in}
use Rattle.record_layouts.specs.Parts.{column_within, items_within}
use Rattle.record_checks.proofs.limits.items_within.Goals as goal

pub loop-j-init : goal.loop-j-init
unfolding all_to
loop-j-init c = refl

pub column_within-requires-clause-width_bound : goal.column_within-requires-clause-width_bound
column_within-requires-clause-width_bound c = (width-in c.args.ws.now c.loop-j.j c.requires.narrow (omega (arith, c.requires.ws_len))).1

pub returns-then-not-column_within : goal.returns-then-not-column_within
unfolding items_within
returns-then-not-column_within c =
    let a = c.args in
    let no = rw (c.from.ensures, c.from-in-loop-j.ensures) at (sym c.column_within.ensures) ∙ c.if-not-column_within.true in
    sym (all-fails (length a.lows.now) (λ i. column_within (at a.lows.now i) (at a.highs.now i) a.values.now (a.row.from + i) (length a.lows.now) a.row.n) c.loop-j.j c.loop-j-test.true no)

pub loop-j-preserved : goal.loop-j-preserved
loop-j-preserved c =
    let a = c.args in
    let yes = rw (c.from.ensures, c.from-in-loop-j.ensures) at (sym c.column_within.ensures) ∙ c.if-not-column_within.false in
    all_more c.loop-j.j (λ i. column_within (at a.lows.now i) (at a.highs.now i) a.values.now (a.row.from + i) (length a.lows.now) a.row.n) c.loop-j.invariant yes

pub returns : goal.returns
unfolding items_within
returns c =
    let n : c.loop-j.j ≡ length c.args.lows.now = omega arith in
    sym (rw n at c.loop-j.invariant)
