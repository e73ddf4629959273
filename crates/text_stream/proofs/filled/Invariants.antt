-- What the window held stands at the front, and each read keeps it and brings a byte at least.
use mathlib.Core.Path.{◌≡◌}
use Prim.Native.Nat.{◌-◌, ◌≤◌}
use lib.ListN.{length, take, drop}
use Rattle.text_stream.proofs.filled.Given as goal

abbrev pub invariant-loop-end : goal.invariant-loop-end
invariant-loop-end g l =
    let w = l.fn.window in
    record {
      longer : w.end - w.start ≤ l.end;
      within : l.end ≤ length l.buffer;
      front : take (w.end - w.start) l.buffer ≡ take (w.end - w.start) (drop w.start l.fn.buffer);
    }

abbrev pub decreases-loop-end : goal.decreases-loop-end
decreases-loop-end g l = l.least - l.end
