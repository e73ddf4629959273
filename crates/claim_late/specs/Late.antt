-- Events that come late (document 02, C-16), and the claim that a list in which none does is answered as by document 01's question 11.
use Rattle.std.specs.Prelude.{ℕ, ◌+◌, max, Bool, true, false, not, ◌&&◌, List, [], ◌∷◌, ◌++◌, ◌≡◌, leb, eqb, length}
use Rattle.record_layouts.specs.Questions.{record_number}
use Rattle.year.specs.declared.Year.{Year}
use Rattle.year.specs.Year.{new_year}
use Rattle.record_heads.specs.declared.Head.{Head}
use Rattle.record_heads.specs.Record.{Record, for_event}
use Rattle.book_recorded.specs.Recorded.{gather, close}
use Rattle.question_list.specs.Questions.{in_time}
use Rattle.book_outcome.specs.Outcome.{record_in, number_under, year_left, buffer_left}
use Rattle.claim_history.specs.Runs.{Call, Answered, record_from}
use Rattle.claim_history.specs.Taking.{answered, answers}

-- with z months closed: is it an event for which z is at max(5, m + 3) or more
abbrev pub is_late : ℕ → Head → Bool
is_late z = for_event (λ e. leb (max 5 (e.month + 3)) z) (λ h. false)

-- does a call bring such an event, accepted or not: a record that questions 1 to 5 let pass
abbrev pub comes_late : ℕ → Call → Bool
comes_late z c = eqb (record_number c.bytes) 0 && is_late z (record_in c.bytes).head

-- does none of the calls xs, which come after the accepted records rs; z counts the closes among those that are accepted by then
unfoldable pub none_late : List Record → List Answered → Bool
none_late rs [] = true
none_late rs (x ∷ xs) = not (comes_late (length (gather close rs)) x.call) && none_late (rs ++ record_from x) xs

-- a book that asks question 11 of events by a time rule: how it shows a call and hands on the year, and how it answers a list
module _ (rule : ℕ → ℕ → Bool) where
  abbrev pub shown_under : Year → Call → Answered
  shown_under y c =
      let n = number_under rule y c.bytes (length c.buffer) in
      record { call = c; number = n; after = buffer_left n y c.bytes c.buffer }

  abbrev pub step_under : Year → Call → Year
  step_under y c = year_left (number_under rule y c.bytes (length c.buffer)) y c.bytes

  abbrev pub answers_under : Year → List Call → List Answered
  answers_under = answered shown_under step_under

-- where no event comes late, every number and every statement is the same under document 01's rule as in the book
abbrev pub AsBefore : List Call → Type 0
AsBefore H = none_late [] (answers new_year H) ≡ true → answers_under in_time new_year H ≡ answers new_year H
