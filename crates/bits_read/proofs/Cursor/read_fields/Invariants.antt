-- With i fields cut out of the word, they are laid over out from its place on, and the cursor in the word stands behind them.
use mathlib.Core.Path.{◌≡◌}
use Prim.Native.Nat.{◌+◌, ◌*◌}
use lib.ListN.{take}
use Rattle.bits.specs.Table.{total, fields_at, laid}
use Rattle.bits_read.proofs.Cursor.read_fields.Given as goal

abbrev pub invariant-loop-i : goal.invariant-loop-i
invariant-loop-i l =
    (l.c.at ≡ l.initial.c.at + total (take l.i l.ws)) × (l.out ≡ laid l.to (fields_at l.bytes (8 * l.first + l.initial.c.at) (take l.i l.ws)) l.initial.out)
