-- Behind the last byte all bits are zero: what is left is the end of the last eight bytes, or all there are.
use mathlib.Core.Path.{◌≡◌, sym, ap, ◌∙◌}
use mathlib.Core.List.{List}
use Prim.Native.Nat.{ℕ, ◌+◌, ◌-◌, ◌*◌, ◌^◌, ◌≤◌}
use native.Mathlib.Nat.{add-zero}
use native.Mathlib.Omega.{arith}
use lib.ListN.{length}
use Rattle.bits.specs.Bits.{field_at}
use Rattle.bits.specs.BitLaws.{field-split, field_past}
use Rattle.bits.specs.Shifts.{behind-first}
use Rattle.bits_read.proofs.words.ahead.Goals as goal

-- the m bits that are left
left : (xs : List ℕ) (p m : ℕ) → m ≤ 64 → 8 * length xs ≤ p + m → field_at xs p 64 ≡ field_at xs p m * 2 ^ (64 - m)
left xs p m l h =
    let e : 64 ≡ m + (64 - m) = omega arith in
    let past : field_at xs (p + m) (64 - m) ≡ 0 = field_past xs (p + m) (64 - m) h in
    ap (λ (w : ℕ). field_at xs p w) e ∙ field-split xs p m (64 - m) ∙ rw (past, add-zero)

pub returns-then-n-ge8 : goal.returns-then-n-ge8
returns-then-n-ge8 c =
    let a = c.args in
    let xs = a.bytes.now in
    let skip = 8 * (a.first + 8 - length xs) in
    let start : 8 * (length xs - 8) + skip ≡ 8 * a.first = omega arith in
    let back : 64 - (64 - skip) ≡ skip = omega arith in
    rw (c.eight-then-n-ge8.ensures, behind-first xs (8 * (length xs - 8)) skip (omega arith), start) (sym (rw back at (left xs (8 * a.first) (64 - skip) (omega arith) (omega arith))))

pub returns : goal.returns
returns c =
    let a = c.args in
    let xs = a.bytes.now in
    c.top.ensures ∙ sym (left xs (8 * a.first) (8 * (length xs - a.first)) (omega arith) (omega arith))
