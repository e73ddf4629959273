-- What a call does, by what it is lent.
use Rattle.std.specs.Prelude.{ℕ, List, Result, Ok, Err}
use Rattle.std.specs.Borrow.{MutBor}
use denote.Triple.Both.{Both}
use Rattle.refusals.specs.declared.Refused.{Refused}
use Rattle.refusals.specs.Numbers.{number_of}
use Rattle.year_cells.specs.declared.YearCells.{YearCells}
use Rattle.year_cells.specs.Layout.{year_in}
use Rattle.book_outcome.specs.Outcome.{Posts}
use Rattle.book.specs.declared.Posted.{Posted}

-- what a call is lent to change, with what it holds as the call begins and as it ends
abbrev pub Lent : Type 0 → Type 0
Lent X = Both (MutBor X) (MutBor X)

-- the bytes consumed, of a refused record too, and those of the statement
abbrev pub used_of : Result Posted Refused → ℕ
used_of (Ok posted) = posted.used
used_of (Err refused) = refused.used

abbrev pub written_of : Result Posted Refused → ℕ
written_of (Ok posted) = posted.written
written_of (Err refused) = 0

-- the answer, and what is left of the cells and the buffer, are the outcome of taking the record that the bytes hold
abbrev pub Takes : Lent YearCells → List ℕ → Lent (List ℕ) → Result Posted Refused → Type 0
Takes year bytes buffer r =
    Posts (year_in year.entry.now.cells) bytes buffer.entry.now (number_of r) (used_of r) (written_of r) (year_in year.exit.now.cells) buffer.exit.now
