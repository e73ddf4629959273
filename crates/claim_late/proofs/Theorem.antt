-- A list in which no event comes late is answered as before: two runs, by document 01's time rule and by the one in force, whose years are equal.
use Rattle.std.specs.Prelude.{true, false, not, List, [], ◌∷◌, ◌++◌, ◌≡◌, length}
use Rattle.std.proofs.Math.Bool.{and-true}
use Rattle.std.proofs.Math.Path.{refl}
use Rattle.std.proofs.Common.{ap, sym, ◌∙◌, leb-false, lt-ltb, eq-eqb}
use Rattle.std.proofs.lemmas.Bool.{not-true}
use Rattle.ids.specs.Tests.{and_parts}
use Rattle.record_layouts.specs.Questions.{record_number}
use Rattle.year.specs.declared.Listing.{Listing}
use Rattle.year.specs.declared.Year.{Year}
use Rattle.year.specs.Year.{new_year}
use Rattle.record_heads.specs.declared.Head.{Head}
use Rattle.record_heads.specs.declared.Head.TheVariants.{Opening, Registration, Lse, Event, Test, Close, Clearing, Retest}
use Rattle.record_heads.specs.Record.{Record}
use Rattle.book_recorded.specs.Recorded.{gather, close, recorded}
use Rattle.book_recorded.specs.Gathered.{gather-each}
use Rattle.book_recorded.specs.Booked.{booked, booked-new}
use Rattle.question_list.specs.Questions.{month_begun, in_time, q11, questions}
use Rattle.book_outcome.specs.Outcome.{record_in, number_under, post_number, year_after, buffer_after}
use Rattle.book_outcome.specs.Numbers.{same_number}
use Rattle.claim_history.specs.Runs.{Call, record_from}
use Rattle.claim_history.specs.Taking.{call_number, buffered, shown, step, answered, answers}
use Rattle.claim_history.proofs.YearFollowsRecords.{step-booked}
use Rattle.claim_history.proofs.TwoRuns.{PairedCalls, none, both, two_runs}
use Rattle.claim_late.specs.Late.{is_late, comes_late, none_late, shown_under, step_under, answers_under, AsBefore}

-- of a record that is no late event the two rules ask the same
module _ (y : Year) (l : Listing) where
  same-eleven : (h : Head) → is_late y.closed h ≡ false → q11 y in_time l h ≡ q11 y month_begun l h
  unfolding q11 in_time
  same-eleven (Opening o) n = refl
  same-eleven (Registration r) n = refl
  same-eleven (Lse j) n = refl
  same-eleven (Event e) n = rw (lt-ltb _ _ (leb-false _ _ n), and-true (month_begun y.closed e.month))
  same-eleven (Test t) n = refl
  same-eleven (Close c) n = refl
  same-eleven (Clearing c) n = refl
  same-eleven (Retest t) n = refl

-- so a call that brings no late event has the same number, leaves the same buffer and hands on the same year
module _ (y : Year) (c : Call) (n : comes_late y.closed c ≡ false) where
  same_answer : number_under in_time y c.bytes (length c.buffer) ≡ call_number y c
  unfolding post_number questions
  same_answer =
      let r = record_in c.bytes in
      same_number in_time month_begun y y c.bytes c.bytes (length c.buffer) (length c.buffer) refl
      (λ zero. rw (same-eleven y r.listing r.head (rw (eq-eqb (record_number c.bytes) 0 zero) at n)))

  same-shown : shown_under in_time y c ≡ shown y c
  unfolding buffered buffer_after
  same-shown = rw same_answer

  same_step : step_under in_time y c ≡ step y c
  unfolding step year_after
  same_step = rw same_answer

-- the relation: equal years; a pair is one call, which brings no late event
abbrev R : Year → Year → Type 0
R y z = y ≡ z

abbrev P : Year → Year → Call → Call → Type 0
P y z c d = (c ≡ d) × (comes_late z.closed d ≡ false)

months-closed : (rs : List Record) → (booked rs).closed ≡ length (gather close rs)
unfolding booked recorded
months-closed rs = refl

all-paired : (H : List Call) (rs : List Record) (y z : Year) → y ≡ z → z ≡ booked rs → none_late rs (answers z H) ≡ true
    → PairedCalls (shown_under in_time) shown (step_under in_time) step R P y z H H
unfolding answered none_late
all-paired [] rs y z e b n = none
all-paired (c ∷ cs) rs y z e b n =
    let parts = and_parts (not (comes_late (length (gather close rs)) c)) (none_late (rs ++ record_from (shown z c)) (answers (step z c) cs)) n in
    let free : comes_late z.closed c ≡ false = rw (b, months-closed rs) (not-true _ parts.0) in
    both (refl, free) (all-paired cs (rs ++ record_from (shown z c)) (step_under in_time y c) (step z c) (rw e (same_step z c free)) (rw b (step-booked rs c)) parts.1)

pub as_before : (H : List Call) → AsBefore H
as_before H n =
    let alike =
    two_runs (shown_under in_time) shown (step_under in_time) step R P (λ y z c d r p. rw (r, p.0) (same_step z d p.1)) (λ x. x ∷ []) (λ x. x ∷ [])
    (λ y z c d r p. rw (r, p.0) (ap (λ x. x ∷ []) (same-shown z d p.1))) refl (all-paired H [] new_year new_year refl (sym booked-new) n) in
    sym (gather-each (answers_under in_time new_year H)) ∙ alike ∙ gather-each (answers new_year H)
