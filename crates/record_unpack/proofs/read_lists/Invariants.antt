-- With i lists taken, the row has the numbers before list i.
use mathlib.Core.Path.{◌≡◌}
use Rattle.bits.specs.Table.{total, fields_at}
use Rattle.record_layouts.specs.Layout.{rules_to, widths}
use Rattle.record_layouts.specs.Questions.{head_numbers, row}
use Rattle.record_unpack.proofs.read_lists.Given as goal

abbrev pub invariant-loop-i : goal.invariant-loop-i
invariant-loop-i l =
    let hs = head_numbers l.bytes in
    record {
      at : l.cursor.at ≡ total (widths (rules_to l.kind hs l.i));
      filled : l.values ≡ row (fields_at l.bytes 0 (widths (rules_to l.kind hs l.i)));
    }
