-- What an accepted record makes of the year, and leaves in the lent buffer.
use Rattle.std.specs.Prelude.{ℕ, cond, List, length}
use Rattle.ids.specs.Ids.{at}
use Rattle.year.specs.declared.Year.{Year}
use Rattle.year_cells.specs.Layout.{listing_at, year_in}
use Rattle.record_heads.specs.declared.Head.{Head}
use Rattle.record_heads.specs.Record.{Record, is_close, month_of}
use Rattle.book_recorded.specs.After.{year_by}
use Rattle.book_accept.specs.Closing.{closing, buffer_closed}

-- the year after an accepted record, from the cells, the row that holds its listing, and its head
abbrev pub year_by_row : List ℕ → List ℕ → Head → Year
year_by_row cells row head = year_by (year_in cells) (listing_at (at row)) head

-- what an accepted record leaves in the buffer, by its head: a close its statement, with the rest as it was; and the statement's bytes
abbrev pub buffer_by : Year → Head → List ℕ → List ℕ
buffer_by y h buffer = cond (is_close h) (buffer_closed y (month_of h) buffer) buffer

abbrev pub written_by : Year → Head → ℕ
written_by y h = cond (is_close h) (length (closing y (month_of h))) 0

-- the same of the record
unfoldable pub buffer_with : Year → Record → List ℕ → List ℕ
buffer_with y r buffer = buffer_by y r.head buffer

unfoldable pub written_with : Year → Record → ℕ
written_with y r = written_by y r.head
