-- The bytes' number has room for the bits behind it.
use Prim.Native.Nat.{◌-◌, ◌*◌}
use native.Mathlib.Omega.{arith}
use lib.Pow.{shl_exact}
use Rattle.bits.specs.Bits.{field_at}
use Rattle.bits.specs.BitLaws.{field_lt}
use Rattle.bits_read.proofs.words.top.Goals as goal

pub returns : goal.returns
returns c =
    let a = c.args in
    let n = 8 * (a.last - a.first) in
    let x = field_at a.bytes.now (8 * a.first) n in
    rw c.gathered.ensures (shl_exact {a = x} n (64 - n) 64 (field_lt a.bytes.now (8 * a.first) n) (omega arith))
