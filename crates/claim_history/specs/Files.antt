-- A record file as a list of calls, one for each of its records, and the numbers and statements of such a list. Demand 3 holds of it as of every list.
use Rattle.std.specs.Prelude.{ℕ, List, [], ◌∷◌, ◌++◌, take}
use Rattle.bits.specs.Pack.{bytes_for}
use Rattle.year.specs.declared.Year.{Year}
use Rattle.statement.specs.ReadBack.{lses_in, lse_line}
use Rattle.book_recorded.specs.Recorded.{gather}
use Rattle.claim_history.specs.Runs.{Call, Answered}
use Rattle.claim_history.specs.Taking.{step}

-- each record's bytes, from its start on, with the buffer that it is lent; the one behind it is lent what `next` says
unfoldable pub calls_of : (Year → Call → List ℕ) → Year → List (List ℕ) → List ℕ → List Call
calls_of next y [] buffer = []
calls_of next y (bytes ∷ records) buffer =
    let c : Call = record { bytes = bytes; buffer = buffer } in
    c ∷ calls_of next (step y c) records (next y c)

-- the numbers of a list's calls
abbrev pub numbers : List Answered → List ℕ
numbers = gather (λ x. x.number ∷ [])

-- of a buffer: the bytes of the statement in its front, up to the end of its last line by the counts in it
unfoldable pub statement_in : List ℕ → List ℕ
statement_in buffer = take (bytes_for (lse_line buffer (lses_in buffer))) buffer

-- the statements in the fronts of buffers, one after another
unfoldable pub joined : List (List ℕ) → List ℕ
joined [] = []
joined (buffer ∷ buffers) = statement_in buffer ++ joined buffers
