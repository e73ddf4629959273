-- With k items written, the writer has written their table.
use mathlib.Core.Path.{◌≡◌}
use Prim.Native.Nat.{◌≤◌}
use lib.ListN.{length, take}
use Rattle.bits.specs.Table.{total, times}
use Rattle.bits_write.specs.Written.{joined, Wrote}
use Rattle.bits_write.proofs.Writer.put_items.Given as goal

abbrev pub invariant-loop-k : goal.invariant-loop-k
invariant-loop-k l =
    (l.k ≤ l.n) × (l.i ≡ length (times l.k l.ws)) × Wrote l.initial.bytes l.bytes l.initial.p l.p (total (times l.k l.ws)) (joined (times l.k l.ws) (take l.i l.values))
