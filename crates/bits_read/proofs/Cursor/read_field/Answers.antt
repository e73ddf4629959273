-- The bits of the field lie in the middle of the word of the eight bytes from its first on.
use mathlib.Core.Path.{◌≡◌, ap, ◌∙◌}
use Prim.Native.Nat.{ℕ, ◌+◌, ◌*◌, ◌/◌, ◌%◌}
use native.Mathlib.Omega.{arith}
use Rattle.bits.specs.Bits.{field_at}
use Rattle.bits.specs.Shifts.{middle}
use Rattle.bits_read.proofs.Cursor.read_field.Goals as goal

pub returns : goal.returns
returns c =
    let a = c.args in
    let f = c.field.ensures in
    let first = 8 * (a.self.at / 8) in
    let here : first + a.self.at % 8 ≡ a.self.at = omega arith in
    let value = middle a.bytes.now first (a.self.at % 8) a.width _ (omega (arith, c.requires.narrow)) c.ahead-word.ensures in
    record { value = f.0 ∙ c.cut.ensures ∙ value ∙ ap (λ (p : ℕ). field_at a.bytes.now p a.width) here; next = f.1 }
