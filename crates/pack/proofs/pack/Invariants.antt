-- The window stays within the input buffer, and a record's room free in the output buffer; each turn passes a line at most.
use mathlib.Core.Path.{◌≡◌}
use Prim.Native.Nat.{◌+◌, ◌≤◌}
use lib.ListN.{length}
use Rattle.record_layouts.specs.Layout.{longest_permitted}
use Rattle.pack.proofs.pack.Given as goal

abbrev pub invariant-loop : goal.invariant-loop
invariant-loop g l = record {
  same_buffer : length l.buffer ≡ length l.initial.buffer;
  within : l.window.end ≤ length l.buffer;
  record_room_left : l.at + longest_permitted ≤ length l.out;
  passed : l.position ≤ l.counter;
}
