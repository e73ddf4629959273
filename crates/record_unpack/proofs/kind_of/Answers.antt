-- The kind is the first four bits, and no byte at all reads as zero bits.
use mathlib.Core.Path.{◌≡◌, sym, ◌∙◌}
use native.Mathlib.Omega.{arith}
use lib.ListN.{length}
use Rattle.std.proofs.Common.{eqb-true}
use Rattle.bits.specs.BitLaws.{field_past}
use Rattle.record_layouts.specs.Questions.{kind_of}
use Rattle.record_unpack.proofs.kind_of.Goals as goal

pub returns-then-is_empty : goal.returns-then-is_empty
unfolding kind_of
returns-then-is_empty c =
    let none : length c.args.bytes.now ≡ 0 = eqb-true _ 0 (sym c.is_empty.ensures ∙ c.if-is_empty.true) in
    let zero = c.field.ensures in
    (zero.0 ∙ sym (field_past c.args.bytes.now 0 4 (omega arith)), omega (arith, zero.1, c.first-c.ensures))

pub returns : goal.returns
unfolding kind_of
returns c =
    let read = c.read_field.ensures in
    (rw c.first-c.ensures at read.value, omega (arith, read.next, c.first-c.ensures))
