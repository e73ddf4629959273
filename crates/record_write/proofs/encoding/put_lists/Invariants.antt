-- With i lists written, the bits are those of the fields before list i.
use Prim.Native.Nat.{ℕ}
use mathlib.Core.List.{List}
use mathlib.Core.Path.{◌≡◌}
use lib.ListN.{length, take}
use Rattle.bits_write.specs.declared.Writer.{Writer}
use Rattle.bits.specs.Table.{total}
use Rattle.bits_write.specs.Written.{joined, written_bits, Wrote}
use Rattle.record_layouts.specs.Layout.{head, rules_to, widths}
use Rattle.record_write.proofs.encoding.put_lists.Given as goal

abbrev pub invariant-loop-i : goal.invariant-loop-i
invariant-loop-i l =
    let hs = head l.kind in
    let rs = rules_to l.kind l.numbers l.i in
    record {
      long : length l.bytes ≡ length l.initial.bytes;
      ends : written_bits l.writer ≡ total (widths rs);
      wrote : (old : List ℕ) (b : Writer) → Wrote old l.initial.bytes b l.initial.writer (total (widths hs)) (joined (widths hs) (take (length hs) l.numbers))
          → Wrote old l.bytes b l.writer (total (widths rs)) (joined (widths rs) (take (length rs) l.numbers));
    }
