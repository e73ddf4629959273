-- What each call for C answers and leaves, by what it is lent to read, and what it is lent to change holds as it begins (`.entry`) and as it ends (`.exit`).
-- A number is 0, or that of the question that failed.
use Rattle.std.specs.Prelude.{ℕ, List}
use Rattle.record_numbers.specs.Calls.{Reads, Writes}
use Rattle.year_cells.specs.declared.YearCells.{YearCells}
use Rattle.year_cells.specs.Layout.{year_in}
use Rattle.book_outcome.specs.Outcome.{Posts}
use Rattle.book.specs.Takes.{Lent}
use Rattle.bill_file.specs.Billed.{Bills}

-- a record read: its number, how many numbers it has, how many bytes, and the buffer with the numbers in front
abbrev pub ReadLeaves : List ℕ → Lent (List ℕ) → ℕ → Lent ℕ → Lent ℕ → Type 0
ReadLeaves bytes numbers number count used = Reads bytes numbers.entry.now number count.exit.now used.exit.now numbers.exit.now

-- a record written: its number, how many bytes it has, and the buffer with the bytes in front
abbrev pub WriteLeaves : List ℕ → Lent (List ℕ) → ℕ → Lent ℕ → Type 0
WriteLeaves numbers bytes number used = Writes numbers bytes.entry.now number used.exit.now bytes.exit.now

-- a record taken by the year in the cells: its number, how many bytes are consumed, how many its statement has, the year after it, and the buffer
abbrev pub PostLeaves : Lent YearCells → List ℕ → Lent (List ℕ) → ℕ → Lent ℕ → Lent ℕ → Type 0
PostLeaves cells bytes buffer number used written =
    Posts (year_in cells.entry.now.cells) bytes buffer.entry.now number used.exit.now written.exit.now (year_in cells.exit.now.cells) buffer.exit.now

-- a record file billed from a new book: how many records are answered, how many bytes are consumed, how many the statements have, and the two buffers with the numbers and the statements in front
abbrev pub BillLeaves : List ℕ → Lent (List ℕ) → Lent (List ℕ) → ℕ → Lent ℕ → Lent ℕ → Type 0
BillLeaves records numbers statements answered used written =
    Bills records numbers.entry.now statements.entry.now answered used.exit.now written.exit.now numbers.exit.now statements.exit.now
