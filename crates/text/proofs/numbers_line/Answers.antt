-- The first number, and after each turn the further ones so far.
use mathlib.Core.Path.{◌≡◌}
use native.Mathlib.Omega.{arith}
use lib.ListN.{length}
use lib.Seq.{take-length}
use Rattle.text.specs.Lines.{decimal, word, each, numbers_line}
use Rattle.text.specs.Pasted.{pasted_length, none, then}
use Rattle.text.specs.LineLaws.{decimal-length, each_step, no-numbers}
use Rattle.text.proofs.numbers_line.Goals as goal

pub returns-in_default : goal.returns-in_default
returns-in_default c = rw (no-numbers _ c.in_default.ensures.cases) c.put_byte.ensures

pub loop-n-init : goal.loop-n-init
unfolding each
loop-n-init c =
    let put = c.put_decimal-p in
    record { pasted = none put.new.out put.result (omega (arith, put.auto.out, put.ensures.within)); upper_bound = omega (arith, put.ensures.next, decimal-length c.in-Some.first.now) }

pub put_number-p-requires : goal.put_number-p-requires
put_number-p-requires c =
    let same = pasted_length c.loop-n.invariant.pasted in
    omega (arith, c.in-Some.ensures.cases)

pub loop-n-preserved : goal.loop-n-preserved
loop-n-preserved c =
    let l = c.loop-n in
    let put = c.put_number-p.ensures in
    record { pasted = rw (each_step (λ m. word (decimal m)) c.in-Some.rest.now l.n-index (omega arith)) (then l.invariant.pasted put.pasted); upper_bound = omega (arith, put.upper_bound) }

pub put_byte-requires-2 : goal.put_byte-requires-2
put_byte-requires-2 c =
    let same = pasted_length c.loop-n.invariant.pasted in
    omega (arith, c.in-Some.ensures.cases)

pub shape_of-out : goal.shape_of-out
shape_of-out c =
    let same = pasted_length c.loop-n.invariant.pasted in
    omega arith

pub returns : goal.returns
unfolding numbers_line
returns c =
    let l = c.loop-n in
    let rest = c.in-Some.rest.now in
    let all : l.n-index ≡ length rest = omega arith in
    let further = rw (all, take-length rest) at l.invariant.pasted in
    rw c.in-Some.ensures.cases.0 (then c.put_decimal-p.ensures (then further c.put_byte-2.ensures))
