-- A field of 32 bits is a pattern.
use Prim.Native.Nat.{◌^◌, ◌<◌}
use native.Mathlib.Omega.{arith}
use Rattle.bits.specs.BitLaws.{field_lt}
use Rattle.cases.proofs.value_of.Goals as goal

pub overflow_cast-pattern : goal.overflow_cast-pattern
overflow_cast-pattern c =
    let small : c.read_field-pattern.result.value < 2 ^ 32 = rw c.read_field-pattern.ensures.value (field_lt _ _ 32) in
    omega (arith, small)
