-- The word holds, turn by turn, the field of the whole bytes passed so far.
use mathlib.Core.Path.{◌≡◌, refl, ◌∙◌}
use Prim.Native.Nat.{◌+◌, ◌-◌, ◌<◌}
use native.Mathlib.Omega.{arith}
use lib.ListN.{get_or, drop}
use Rattle.std.proofs.Common.{length-drop, length-take-le, get_or-drop, get_or-take}
use Rattle.bits.specs.Bits.{number}
use Rattle.bits.specs.Shifts.{gather}
use Rattle.bits_read.proofs.words.gathered.Goals as goal

pub loop-byte-init : goal.loop-byte-init
unfolding number
loop-byte-init c = refl

pub loop-byte-preserved : goal.loop-byte-preserved
loop-byte-preserved c =
    let xs = c.args.bytes.now in
    let first = c.args.first in
    let i = c.loop-byte.byte-index in
    let n = c.args.last - first in
    let part = drop first xs in
    let inside : i < n = omega (arith, length-take-le n part (omega (arith, length-drop first xs))) in
    let byte : c.from.result ≡ get_or xs (first + i) 0 = c.from.ensures ∙ get_or-take n part i 0 inside ∙ get_or-drop first xs i 0 in
    let here : first + i - first ≡ i = omega arith in
    let next : first + i + 1 - first ≡ i + 1 = omega arith in
    rw byte (rw next at (gather xs first (first + i) c.loop-byte.acc (omega arith) (omega arith) (c.type_inv.bytes (first + i)).fits (rw here c.loop-byte.invariant)))
