-- After each turn the digits of the bytes so far stand in the buffer.
use Prim.Native.Nat.{◌+◌, ◌*◌, ◌≤◌}
use lib.ListN.{take}
use Rattle.text.specs.Lines.{each, hex_of}
use Rattle.text.specs.Pasted.{Pasted}
use Rattle.text.proofs.put_bytes.Given as goal

abbrev pub invariant-loop-b : goal.invariant-loop-b
invariant-loop-b l = record {
  pasted : Pasted l.initial.out l.out l.at (each hex_of (take l.b-index l.bytes)) l.p;
  upper_bound : l.p ≤ l.at + 2 * l.b-index;
}
