-- No bit that is left is zero; else the field of the bits that are left is read.
use Prim.Native.Nat.{◌-◌, ◌*◌}
use mathlib.Core.Path.{◌≡◌}
use native.Mathlib.Omega.{arith}
use Rattle.bits.specs.Bits.{number}
use Rattle.bits.specs.Pack.{bytes_for}
use Rattle.record_checks.proofs.is_filled.Goals as goal

pub returns-then-left-eq0 : goal.returns-then-left-eq0
unfolding number
returns-then-left-eq0 c =
    let z : 8 * bytes_for c.args.c.at - c.args.c.at ≡ 0 = omega arith in
    rw z
