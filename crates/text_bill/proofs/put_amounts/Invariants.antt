-- After each turn the amounts so far stand in the buffer, and the cursor behind their bits.
use Prim.Native.Nat.{◌+◌, ◌*◌, ◌≤◌}
use mathlib.Core.Path.{◌≡◌}
use Rattle.text_bill.specs.Text.{amount_at, lines_from}
use Rattle.text.specs.Pasted.{Pasted}
use Rattle.text_bill.proofs.put_amounts.Given as goal

abbrev pub invariant-loop : goal.invariant-loop
invariant-loop l =
    (l.counter ≤ l.n) × Pasted l.initial.out l.out l.initial.place.at (lines_from (amount_at l.statement) 42 l.initial.place.next.at l.counter) l.place.at × (l.place.at ≤ l.initial.place.at + 22 * l.counter) × (l.place.next.at ≡ l.initial.place.next.at + 42 * l.counter)
