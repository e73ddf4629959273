-- How the book answers a list of calls: each gets the year that the one before left, accepted or refused.
use Rattle.std.specs.Prelude.{ℕ, Bool, List, [], ◌∷◌, length}
use Rattle.year.specs.declared.Year.{Year}
use Rattle.book_outcome.specs.Outcome.{post_number, year_after, buffer_after}
use Rattle.claim_history.specs.Runs.{Call, Answered, is_accepted, is_closing}

-- a call that gets the year y, as `post` promises it: its number, what the buffer holds afterwards, and the year after it
abbrev pub call_number : Year → Call → ℕ
call_number y c = post_number y c.bytes (length c.buffer)

unfoldable pub buffered : Year → Call → List ℕ
buffered y c = buffer_after y c.bytes c.buffer

unfoldable pub step : Year → Call → Year
step y c = year_after y c.bytes (length c.buffer)

abbrev pub shown : Year → Call → Answered
shown y c = record { call = c; number = call_number y c; after = buffered y c }

-- calls one after another, as they are shown and hand on the year
unfoldable pub answered : (Year → Call → Answered) → (Year → Call → Year) → Year → List Call → List Answered
answered show next y [] = []
answered show next y (c ∷ cs) = show y c ∷ answered show next (next y c) cs

abbrev pub answers : Year → List Call → List Answered
answers = answered shown step

-- the year that a list leaves
unfoldable pub run : Year → List Call → Year
run y [] = y
run y (c ∷ cs) = run (step y c) cs

abbrev pub accepts : Year → Call → Bool
accepts y c = is_accepted (shown y c)

abbrev pub closes : Year → Call → Bool
closes y c = is_closing (shown y c)
