-- Along a list of calls: the year after two lists in a row, and that each year has just what the accepted records say.
use Rattle.std.specs.Prelude.{Bool, true, false, cond, List, [], ◌∷◌, ◌++◌, ◌≡◌, refl}
use Rattle.std.proofs.Common.{append-nil, append_assoc, ap, ◌∙◌}
use Rattle.year.specs.declared.Year.{Year}
use Rattle.year.specs.Year.{new_year}
use Rattle.record_heads.specs.Record.{Record}
use Rattle.question_list.specs.Admitted.{event-room}
use Rattle.book_recorded.specs.After.{year_with}
use Rattle.book_recorded.specs.Recorded.{gather, alone}
use Rattle.book_recorded.specs.Booked.{booked, booked-new, booked-more}
use Rattle.book_outcome.specs.Outcome.{record_in, year_after}
use Rattle.claim_history.specs.Runs.{Call, is_accepted, record_from, accepted_in}
use Rattle.claim_history.specs.Taking.{shown, step, answered, answers, run, accepts}
use Rattle.claim_history.specs.Admitted.{accepted-admitted}

pub run-append : (y : Year) (xs zs : List Call) → run y (xs ++ zs) ≡ run (run y xs) zs
unfolding run
run-append y [] zs = refl
run-append y (c ∷ xs) zs = run-append (step y c) xs zs

pub answers-more : (y : Year) (xs : List Call) (c : Call) → answers y (xs ++ c ∷ []) ≡ answers y xs ++ shown (run y xs) c ∷ []
unfolding answered run
answers-more y [] c = refl
answers-more y (x ∷ xs) c = ap (λ l. shown y x ∷ l) (answers-more (step y x) xs c)

-- a step, by whether the call is accepted
pub step_by : (y : Year) (c : Call) → step y c ≡ cond (accepts y c) (year_with y (record_in c.bytes)) y
unfolding step is_accepted year_after
step_by y c = refl

-- the year that a call leaves is the one of the records accepted so far, its own included
pub step-booked : (rs : List Record) (c : Call) → step (booked rs) c ≡ booked (rs ++ record_from (shown (booked rs) c))
step-booked rs c = rw (step_by (booked rs) c) (go (accepts (booked rs) c) refl)
  where
    go : (b : Bool) → accepts (booked rs) c ≡ b
        → cond b (year_with (booked rs) (record_in c.bytes)) (booked rs) ≡ booked (rs ++ alone b (record_in c.bytes))
    go false e = rw (append-nil rs)
    go true e =
        let r = record_in c.bytes in
        booked-more rs r.listing r.head (λ v q. event-room (rw q at (accepted-admitted (booked rs) c e)))

run-booked : (rs : List Record) (cs : List Call) → run (booked rs) cs ≡ booked (rs ++ accepted_in (answers (booked rs) cs))
unfolding run answered gather
run-booked rs [] = rw (append-nil rs)
run-booked rs (c ∷ cs) =
    let new = record_from (shown (booked rs) c) in
    rw (step-booked rs c) (run-booked (rs ++ new) cs ∙ ap booked (append_assoc rs new (accepted_in (answers (booked (rs ++ new)) cs))))

pub run-years : (cs : List Call) → run new_year cs ≡ booked (accepted_in (answers new_year cs))
run-years cs = rw booked-new at (run-booked [] cs)
