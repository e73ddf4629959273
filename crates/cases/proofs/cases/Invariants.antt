-- The window stays within the buffer, from line to line.
use mathlib.Core.Path.{◌≡◌}
use Prim.Native.Nat.{◌≤◌}
use lib.ListN.{length}
use Rattle.cases.proofs.cases.Given as goal

abbrev pub invariant-loop : goal.invariant-loop
invariant-loop g l = record {
  same_buffer : length l.buffer ≡ length l.initial.buffer;
  within : l.window.end ≤ length l.buffer;
}
