-- With i values written, the writer has written their table.
use lib.ListN.{length, take}
use Rattle.bits.specs.Table.{total}
use Rattle.bits_write.specs.Written.{joined, Wrote}
use Rattle.bits_write.proofs.Writer.put_all.Given as goal

abbrev pub invariant-loop-w : goal.invariant-loop-w
invariant-loop-w l =
    let i = length l.yielded in
    Wrote l.initial.bytes l.bytes l.initial.p l.p (total (take i l.ws)) (joined (take i l.ws) (take i l.values))
