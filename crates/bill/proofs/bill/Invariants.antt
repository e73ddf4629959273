-- The window stays within the input buffer, and a report's room free in the output buffer; each turn passes one position.
use mathlib.Core.Path.{◌≡◌}
use Prim.Native.Nat.{◌+◌, ◌≤◌}
use lib.ListN.{length}
use Rattle.text_bill.specs.Text.{room}
use Rattle.bill.proofs.bill.Given as goal

abbrev pub invariant-loop : goal.invariant-loop
invariant-loop g l = record {
  same_buffer : length l.buffer ≡ length l.initial.buffer;
  within : l.window.end ≤ length l.buffer;
  room_left : l.course.at + room ≤ length l.out;
  passed : l.course.position ≡ l.counter;
}
