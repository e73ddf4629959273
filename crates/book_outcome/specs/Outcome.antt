-- The outcome of a call that takes a record: number, bytes consumed, year after, and buffer after.
use Rattle.std.specs.Prelude.{ℕ, Bool, cond, List, ◌++◌, ◌≡◌, length, eqb}
use Rattle.record_layouts.specs.Questions.{first_failed, numbers_of, record_questions, consumed}
use Rattle.year.specs.declared.Year.{Year}
use Rattle.record_heads.specs.Record.{Record, record_of}
use Rattle.book_recorded.specs.After.{year_with}
use Rattle.question_list.specs.Questions.{month_begun, questions}
use Rattle.book_accept.specs.Leaves.{buffer_with, written_with}

-- the record that the bytes hold
abbrev pub record_in : List ℕ → Record
record_in bytes = record_of (numbers_of bytes)

-- the number of the first question that fails, 0 where none does: by a time rule for events, and by the one in force
abbrev pub number_under : (ℕ → ℕ → Bool) → Year → List ℕ → ℕ → ℕ
number_under rule y bytes room = first_failed (record_questions bytes ++ questions rule y (record_in bytes) room)

unfoldable pub post_number : Year → List ℕ → ℕ → ℕ
post_number y bytes room = number_under month_begun y bytes room

-- what a call with this number leaves: a refusal changes neither year nor buffer
abbrev pub year_left : ℕ → Year → List ℕ → Year
year_left number y bytes = cond (eqb number 0) (year_with y (record_in bytes)) y

abbrev pub buffer_left : ℕ → Year → List ℕ → List ℕ → List ℕ
buffer_left number y bytes buffer = cond (eqb number 0) (buffer_with y (record_in bytes) buffer) buffer

-- what a call leaves, with the number that it has; a refusal writes nothing
unfoldable pub year_after : Year → List ℕ → ℕ → Year
year_after y bytes room = year_left (post_number y bytes room) y bytes

unfoldable pub buffer_after : Year → List ℕ → List ℕ → List ℕ
buffer_after y bytes buffer = buffer_left (post_number y bytes (length buffer)) y bytes buffer

unfoldable pub written_after : Year → List ℕ → ℕ → ℕ
written_after y bytes room = cond (eqb (post_number y bytes room) 0) (written_with y (record_in bytes)) 0

pub record Posts (y : Year) (bytes before : List ℕ) (number used written : ℕ) (year : Year) (after : List ℕ) : Type 0 where
  pub numbers : number ≡ post_number y bytes (length before)
  pub uses : used ≡ consumed bytes
  pub writes : written ≡ written_after y bytes (length before)
  pub years : year ≡ year_after y bytes (length before)
  pub leaves : after ≡ buffer_after y bytes before
