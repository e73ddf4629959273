-- After each turn the digits of the bytes so far stand in the buffer.
use mathlib.Core.Path.{◌≡◌}
use native.Mathlib.Omega.{arith}
use lib.ListN.{length}
use lib.Seq.{take-length}
use Rattle.text.specs.Lines.{each, hex_of}
use Rattle.text.specs.Pasted.{pasted_length, none, then}
use Rattle.text.specs.LineLaws.{each_step, no_bytes, some_bytes}
use Rattle.text.proofs.put_bytes.Goals as goal

pub returns-then-bytes-eq0 : goal.returns-then-bytes-eq0
returns-then-bytes-eq0 c =
    let put = c.put_byte.ensures in record { pasted = rw (no_bytes c.args.bytes.now c.if-bytes-eq0.true) put; upper_bound = omega (arith, put.next) }

pub loop-b-init : goal.loop-b-init
unfolding each
loop-b-init c =
    let a = c.args in record { pasted = none a.out.now a.at (omega arith); upper_bound = omega arith }

pub put_hexadecimal-p-requires : goal.put_hexadecimal-p-requires
put_hexadecimal-p-requires c =
    let same = pasted_length c.loop-b.invariant.pasted in
    omega arith

pub loop-b-preserved : goal.loop-b-preserved
loop-b-preserved c =
    let l = c.loop-b in
    let put = c.put_hexadecimal-p.ensures in
    record { pasted = rw (each_step hex_of c.args.bytes.now l.b-index (omega arith)) (then l.invariant.pasted put); upper_bound = omega (arith, put.next) }

pub shape_of-out : goal.shape_of-out
shape_of-out c = pasted_length c.loop-b.invariant.pasted

pub returns : goal.returns
returns c =
    let bytes = c.args.bytes.now in
    let l = c.loop-b in
    let all : l.b-index ≡ length bytes = omega arith in record { pasted = rw (some_bytes bytes (omega arith)) (rw (all, take-length bytes) at l.invariant.pasted); upper_bound = omega arith }
