-- With k items read, their fields are laid over out from its place on, and the cursor stands behind them.
use mathlib.Core.Path.{◌≡◌}
use Prim.Native.Nat.{◌+◌, ◌≤◌}
use lib.ListN.{length}
use Rattle.bits.specs.Table.{total, times, fields_at, laid}
use Rattle.bits_read.proofs.Cursor.read_items.Given as goal

abbrev pub invariant-loop-k : goal.invariant-loop-k
invariant-loop-k l =
    (l.k ≤ l.items.count)
    × (l.c.at ≡ l.initial.c.at + total (times l.k l.ws))
    × (l.at ≡ l.to + length (times l.k l.ws))
    × (length l.out ≡ length l.initial.out)
    × (l.out ≡ laid l.to (fields_at l.bytes l.initial.c.at (times l.k l.ws)) l.initial.out)
