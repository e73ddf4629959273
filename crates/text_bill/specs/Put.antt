-- Text that is put into a buffer from a place on, while a cursor goes through the statement that it is read from.
use Rattle.std.specs.Prelude.{ℕ, ◌+◌, ◌≤◌, List, ◌≡◌}
use Rattle.text.specs.Pasted.{Pasted}
use Rattle.text_bill.specs.Text.{amount_at, lines_from, party_line, party_lines, answer_lines}
use Rattle.text_bill.specs.declared.Place.{Place}
use Rattle.text_bill.specs.declared.sort.Sort.{Sort}

-- of a buffer that was old and is new: a text from one place up to another
abbrev pub Puts : List ℕ → List ℕ → Place → List ℕ → Place → Type 0
Puts old new from text to = Pasted old new from.at text to.at

-- the place behind a text of at most so many bytes that is read from so many bits
abbrev pub Reaches : Place → ℕ → ℕ → Place → Type 0
Reaches from bytes bits to = (to.at ≤ from.at + bytes) × (to.next.at ≡ from.next.at + bits)

-- of a statement's bytes, from a place's cursor on: n amounts, the line of a party of a sort, and the lines of so many
module _ (xs : List ℕ) where
  abbrev pub amounts_at : Place → ℕ → List ℕ
  amounts_at from n = lines_from (amount_at xs) 42 from.next.at n

  abbrev pub line_at : Sort → Place → List ℕ
  line_at sort from = party_line xs sort.letter sort.amounts from.next.at

  abbrev pub lines_at : Sort → Place → ℕ → List ℕ
  lines_at sort from count = party_lines xs sort.letter sort.amounts from.next.at count

-- the report of a record in a buffer that was old and is new, from at up to end
abbrev pub Reports : ℕ → ℕ → ℕ → List ℕ → List ℕ → List ℕ → ℕ → ℕ → Type 0
Reports position kind number xs old new at end = Pasted old new at (answer_lines position kind number xs) end
