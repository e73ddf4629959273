-- The word holds, turn by turn, the field of the whole bytes passed so far.
use mathlib.Core.Path.{◌≡◌}
use Prim.Native.Nat.{◌*◌}
use Rattle.bits.specs.Bits.{field_at}
use Rattle.bits_read.proofs.words.gathered.Given as goal

abbrev pub invariant-loop-byte : goal.invariant-loop-byte
invariant-loop-byte l = l.acc ≡ field_at l.fn.bytes (8 * l.fn.first) (8 * l.byte-index)
