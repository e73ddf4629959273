-- What a step prints, by what it is lent holds as it begins and as it ends.
use Rattle.std.specs.Prelude.{List, ℕ}
use Rattle.year_cells.specs.declared.YearCells.{YearCells}
use Rattle.year_cells.specs.Layout.{year_in}
use Rattle.book.specs.Takes.{Lent}
use Rattle.text.specs.Pasted.{Pasted}
use Rattle.bill_step.specs.Answer.{answer_text}
use Rattle.bill_step.specs.declared.Course.{Course}

-- the text of what a record is answered stands behind what is printed before
abbrev pub Prints : Lent YearCells → List ℕ → Lent (List ℕ) → Lent (List ℕ) → Course → Course → Type 0
Prints year bytes statement out course next =
    Pasted out.entry.now out.exit.now course.at (answer_text course.position (year_in year.entry.now.cells) (record { bytes = bytes; buffer = statement.entry.now })) next.at
