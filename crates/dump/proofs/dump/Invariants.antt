-- The window stays within the input buffer, and a line's room free in the output buffer.
use mathlib.Core.Path.{◌≡◌}
use Prim.Native.Nat.{◌+◌, ◌≤◌}
use lib.ListN.{length}
use Rattle.text_record.specs.Line.{line_room}
use Rattle.dump.proofs.dump.Given as goal

abbrev pub invariant-loop-position : goal.invariant-loop-position
invariant-loop-position g l = record {
  same_buffer : length l.buffer ≡ length l.initial.buffer;
  within : l.window.end ≤ length l.buffer;
  line_room_left : l.at + line_room ≤ length l.out;
}
