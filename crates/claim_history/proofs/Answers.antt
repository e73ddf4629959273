-- What a list of answered calls is made of: each was shown in the year that the calls before it left, and answers the first question that fails, put to the records
-- accepted before it.
use Rattle.std.specs.Prelude.{ℕ, List, [], ◌∷◌, ◌++◌, map, ◌≡◌, refl, length}
use Rattle.std.proofs.Common.{ap, arith}
use Rattle.year.specs.declared.Year.{Year}
use Rattle.year.specs.Year.{new_year}
use Rattle.record_heads.specs.Record.{Record}
use Rattle.book_recorded.specs.Recorded.{recorded}
use Rattle.book_recorded.specs.Booked.{booked, facts-booked}
use Rattle.question_list.specs.Questions.{month_begun, q6, q7, q8, q9, q10, q17, q11, q20, q21, q12, q13, q14, q15, questions}
use Rattle.book_outcome.specs.Outcome.{record_in, post_number}
use Rattle.claim_history.specs.Runs.{Call, Answered, accepted_in}
use Rattle.claim_history.specs.Taking.{shown, step, answered, answers, run}
use Rattle.claim_history.proofs.YearFollowsRecords.{run-years}

pub answers-each : (y : Year) (H : List Call) → map (λ x. x.call) (answers y H) ≡ H
unfolding answered
answers-each y [] = refl
answers-each y (c ∷ cs) = ap (λ l. c ∷ l) (answers-each (step y c) cs)

-- the calls before x, and x's own
pub record Split (y : Year) (before : List Answered) (x : Answered) : Type 0 where
  pub earlier : List Call
  pub own : Call
  pub before-is : before ≡ answers y earlier
  pub own_is : x ≡ shown (run y earlier) own

pub split : (y : Year) (H : List Call) (before : List Answered) (x : Answered) (after : List Answered) → answers y H ≡ before ++ x ∷ after → Split y before x
unfolding answered run
split y [] [] x after e = absurd (let z : ◌≡◌ {A = ℕ} 0 1 = cc in omega arith)
split y [] (b ∷ bs) x after e = absurd (let z : ◌≡◌ {A = ℕ} 0 1 = cc in omega arith)
split y (c ∷ cs) [] x after e = record { earlier = []; own = c; before-is = refl; own_is = cc }
split y (c ∷ cs) (b ∷ bs) x after e =
    let rest : answers (step y c) cs ≡ bs ++ x ∷ after = cc in
    let first : shown y c ≡ b = cc in
    let s = split (step y c) cs bs x after rest in
    record { earlier = c ∷ s.earlier; own = s.own; before-is = cc s.before-is; own_is = s.own_is }

-- no question reads what is billed, or the rows behind the events
same-questions : (rs : List Record) (r : Record) (room : ℕ) → questions month_begun (booked rs) r room ≡ questions month_begun (recorded rs) r room
unfolding questions q6 q7 q8 q9 q10 q17 q11 q20 q21 q12 q13 q14 q15 booked
same-questions rs r room = rw (facts-booked rs)

pub numbered : (cs : List Call) (c : Call) → (shown (run new_year cs) c).number ≡ post_number (recorded (accepted_in (answers new_year cs))) c.bytes (length c.buffer)
unfolding post_number
numbered cs c = rw (run-years cs, same-questions (accepted_in (answers new_year cs)) (record_in c.bytes) (length c.buffer))
