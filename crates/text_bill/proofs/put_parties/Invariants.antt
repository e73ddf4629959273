-- After each turn the lines so far stand in the buffer, and the cursor behind their bits.
use Prim.Native.Nat.{◌+◌, ◌*◌, ◌≤◌}
use mathlib.Core.Path.{◌≡◌}
use Rattle.text_bill.specs.Text.{party_bits, party_room, party_lines}
use Rattle.text.specs.Pasted.{Pasted}
use Rattle.text_bill.proofs.put_parties.Given as goal

abbrev pub invariant-loop : goal.invariant-loop
invariant-loop l =
    (l.counter ≤ l.count)
    × Pasted l.initial.out l.out l.initial.place.at (party_lines l.statement l.sort.letter l.sort.amounts l.initial.place.next.at l.counter) l.place.at
    × (l.place.at ≤ l.initial.place.at + party_room l.sort.amounts * l.counter)
    × (l.place.next.at ≡ l.initial.place.next.at + party_bits l.sort.amounts * l.counter)
