-- What the bill program prints (document 01, 'The bill program'): of a call, and of a whole file.
use Rattle.std.specs.Prelude.{ℕ, ◌+◌, ◌≤◌, ◌<◌, ◌^◌, List, [], ◌∷◌, ◌++◌, length}
use Rattle.record_layouts.specs.Questions.{kind_of}
use Rattle.year.specs.declared.Year.{Year}
use Rattle.year.specs.Year.{new_year}
use Rattle.record_file.specs.Walk.{records_in}
use Rattle.claim_history.specs.Runs.{Call}
use Rattle.claim_history.specs.Taking.{call_number, buffered, step, answers}
use Rattle.claim_history.specs.Claim.{Demand3}
use Rattle.claim_history.specs.Files.{calls_of}
use Rattle.claim_history.proofs.Theorem.{demand3}
use Rattle.text_bill.specs.Text.{answer_lines, room, statement_room}
use Rattle.bill_step.specs.declared.Course.{Course}

-- of the call at a position that gets the year y: a refusal's line, an accepted close's statement, of any other record nothing
unfoldable pub answer_text : ℕ → Year → Call → List ℕ
answer_text position y c = answer_lines position (kind_of c.bytes) (call_number y c) (buffered y c)

-- of calls, the first at a position
unfoldable pub text_of : ℕ → Year → List Call → List ℕ
text_of position y [] = []
text_of position y (c ∷ cs) = answer_text position y c ++ text_of (position + 1) (step y c) cs

-- a file's records, from a new book: each is lent the same buffer, as the one before left it
abbrev pub calls : List ℕ → List ℕ → List Call
calls file buffer = calls_of buffered new_year (records_in file) buffer

-- the bill of a file
abbrev pub bill_text : List ℕ → List ℕ → List ℕ
bill_text file buffer = text_of 1 new_year (calls file buffer)

-- demand 3 of a file that is billed
pub bill-demand3 : (file buffer : List ℕ) → Demand3 (answers new_year) (calls file buffer)
bill-demand3 file buffer = demand3 (calls file buffer)

-- what a step needs: a byte, a position that can be counted on, and room for a statement and for a report
pub record Ready (c : Course) (bytes statement out : List ℕ) : Type 0 where
  pub some : 0 < length bytes
  pub counted : c.position + 1 < 2 ^ 64
  pub stated : statement_room ≤ length statement
  pub free : c.at + room ≤ length out
