-- A space, then the digits, or `-` and those of what is left to 2 ^ 42.
use native.Mathlib.Omega.{arith}
use Prim.Native.Nat.{◌-◌, ◌^◌}
use Rattle.text.specs.Pasted.{then}
use Rattle.text.specs.LineLaws.{decimal-length}
use Rattle.text_bill.specs.TextLaws.{cents-low, cents-high}
use Rattle.text_bill.proofs.put_amount.Goals as goal

pub returns-then-bits-lt-NEGATIVE : goal.returns-then-bits-lt-NEGATIVE
returns-then-bits-lt-NEGATIVE c =
    let bits = c.args.bits in
    let e = then c.put_byte-p.ensures c.put_decimal.ensures in record { pasted = rw (cents-low bits c.if-bits-lt-NEGATIVE.true) e; upper_bound = omega (arith, e.next, decimal-length bits) }

pub returns : goal.returns
returns c =
    let bits = c.args.bits in
    let e = then c.put_byte-p.ensures (then c.put_byte-q.ensures c.put_decimal-2.ensures) in record { pasted = rw (cents-high bits c.if-bits-lt-NEGATIVE.false c.requires.bits_bound) e; upper_bound = omega (arith, e.next, decimal-length (2 ^ 42 - bits)) }
