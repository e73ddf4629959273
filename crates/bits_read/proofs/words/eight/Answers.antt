-- Eight bytes in a row make the field of their bits: four of them, and four more.
use mathlib.Core.Path.{◌≡◌}
use Prim.Native.Nat.{ℕ, ◌+◌, ◌*◌, ◌^◌, ◌<◌}
use native.Mathlib.Omega.{arith}
use lib.ListN.{get_or}
use Rattle.bits.specs.BitLaws.{field-split}
use Rattle.bits.specs.Shifts.{quad-field}
use Rattle.bits_read.proofs.words.eight.Goals as goal

pub returns : goal.returns
returns c =
    let xs = c.args.bytes.now in
    let i = c.args.i in
    let b : (k : ℕ) → get_or xs k 0 < 2 ^ 8 = λ k. (c.type_inv.bytes k).fits in
    let second : 8 * i + 32 ≡ 8 * (i + 4) = omega arith in
    let fifth : i + 4 + 1 ≡ i + 5 = omega arith in
    let sixth : i + 4 + 2 ≡ i + 6 = omega arith in
    let last : i + 4 + 3 ≡ i + 7 = omega arith in
    rw (field-split xs (8 * i) 32 32, second, quad-field xs i b, quad-field xs (i + 4) b, fifth, sixth, last) (omega (arith, c.from_be_bytes.ensures))
