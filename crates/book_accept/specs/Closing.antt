-- What a close makes of the year, and leaves in the lent buffer.
use Rattle.std.specs.Prelude.{ℕ, List, ◌++◌, length, drop}
use Rattle.year.specs.declared.Year.{Year}
use Rattle.year.specs.Steps.{with_close}
use Rattle.owed.specs.Facts.{facts_of}
use Rattle.owed.specs.Owed.{amounts}
use Rattle.statement.specs.Statement.{statement_of}

-- the statement of a close
abbrev pub closing : Year → ℕ → List ℕ
closing y month = statement_of y.terms month (amounts (facts_of y) month) y.billed

-- the year with the month closed
abbrev pub year_closed : Year → ℕ → Year
year_closed y month = with_close y (amounts (facts_of y) month)

-- the buffer with the close's statement at its front, and the rest as it was
abbrev pub buffer_closed : Year → ℕ → List ℕ → List ℕ
buffer_closed y month buffer =
    let s = closing y month in
    s ++ drop (length s) buffer
