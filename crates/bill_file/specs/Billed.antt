-- The bill of a record file: the answer to each record, and the statements of the accepted closes.
use Rattle.std.specs.Prelude.{ℕ, ◌+◌, cond, List, [], ◌∷◌, ◌≡◌, length, drop}
use Rattle.record_layouts.specs.Questions.{consumed}
use Rattle.record_numbers.specs.Calls.{over}
use Rattle.year.specs.declared.Year.{Year}
use Rattle.year.specs.Year.{new_year}
use Rattle.record_file.specs.Walk.{records_to}
use Rattle.claim_history.specs.Runs.{Call, statements}
use Rattle.claim_history.specs.Taking.{closes, buffered, answers}
use Rattle.claim_history.specs.Claim.{Demand3}
use Rattle.claim_history.specs.Files.{calls_of, numbers, statement_in, joined}
use Rattle.claim_history.proofs.Theorem.{demand3}
use Rattle.book.specs.Takes.{Lent}
use Rattle.bill_file.specs.declared.Totals.{Totals}

-- a call's statement; nothing for any record but an accepted close
unfoldable pub statement : Year → Call → List ℕ
statement y c = cond (closes y c) (statement_in (buffered y c)) []

-- the buffer behind it, which the next record is lent
abbrev pub behind : Year → Call → List ℕ
behind y c = drop (length (statement y c)) c.buffer

-- a file's first n records at most, from a new book, with a buffer for all their statements
abbrev pub calls : ℕ → List ℕ → List ℕ → List Call
calls n file buffer = calls_of behind new_year (records_to n file) buffer

-- the bytes that calls consume
unfoldable pub consumed_by : List Call → ℕ
consumed_by [] = 0
consumed_by (c ∷ cs) = consumed c.bytes + consumed_by cs

-- the records' numbers, the bytes consumed, and the statements one after another
pub record Bill : Type 0 where
  pub numbers : List ℕ
  pub used : ℕ
  pub statements : List ℕ

abbrev pub billed : Year → List Call → Bill
billed y cs = record { numbers = numbers (answers y cs); used = consumed_by cs; statements = joined (statements (answers y cs)) }

-- what a bill leaves of two buffers: its numbers and its statements in front, and the rest as it was
pub record Leaves (b : Bill) (numbers statements : List ℕ) (answered used written : ℕ) (numbers_after statements_after : List ℕ) : Type 0 where
  pub counts : answered ≡ length b.numbers
  pub uses : used ≡ b.used
  pub writes : written ≡ length b.statements
  pub answers : numbers_after ≡ over b.numbers numbers
  pub leaves : statements_after ≡ over b.statements statements

-- a file billed from a new book
abbrev pub Bills : List ℕ → List ℕ → List ℕ → ℕ → ℕ → ℕ → List ℕ → List ℕ → Type 0
Bills file numbers statements = Leaves (billed new_year (calls (length numbers) file statements)) numbers statements

-- a file billed, by what is lent: its totals, and the two buffers
abbrev pub FileLeaves : List ℕ → Lent (List ℕ) → Lent (List ℕ) → Totals → Type 0
FileLeaves records numbers statements r =
    Bills records numbers.entry.now statements.entry.now r.answered r.used r.written numbers.exit.now statements.exit.now

-- demand 3 of a file that is billed
pub bill-demand3 : (file : List ℕ) (n : ℕ) (buffer : List ℕ) → Demand3 (answers new_year) (calls n file buffer)
bill-demand3 file n buffer = demand3 (calls n file buffer)
