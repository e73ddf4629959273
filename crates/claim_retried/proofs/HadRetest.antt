-- Question 20 reads off the registrations whether a seller has had a retest of a zone and product. It is so exactly where its retest of that is among the accepted records.
use Rattle.std.specs.Prelude.{ℕ, Bool, true, false, ◌||◌, cond, List, [], ◌∷◌, ◌++◌, ◌≡◌, refl, ltb, length}
use Rattle.std.proofs.Math.Bool.{or-true, or-false}
use Rattle.std.proofs.Common.{append-nil, append_assoc, ap, sym, ◌∙◌}
use Rattle.year.specs.declared.Year.{Year}
use Rattle.year.specs.Year.{new_year}
use Rattle.owed.specs.Facts.{facts_of}
use Rattle.owed.specs.Retests.{had_retest}
use Rattle.record_heads.specs.Record.{Record}
use Rattle.book_recorded.specs.After.{year_with}
use Rattle.book_recorded.specs.Recorded.{gather, alone, recorded}
use Rattle.book_recorded.specs.Gathered.{gather-more, some_more}
use Rattle.book_recorded.specs.Booked.{facts-booked}
use Rattle.book_outcome.specs.Outcome.{record_in}
use Rattle.claim_history.specs.Runs.{Call, record_from, accepted_in}
use Rattle.claim_history.specs.Taking.{shown, step, answered, answers, run, accepts}
use Rattle.claim_history.proofs.YearFollowsRecords.{step_by, run-years}
use Rattle.claim_history.specs.Admitted.{accepted-admitted}
use Rattle.claim_history.proofs.StepCases.{does}
use Rattle.claim_history.proofs.StepInvariants.{StepInvariants, never, kept_new, accepted-sound, kept_step}
use Rattle.claim_retried.specs.Retried.{is_retest_at, any_retest, InTest, none-had, blank, had_by}

-- of a year after these records
record Had (y : Year) (rs : List Record) : Type 0 where
  kept : StepInvariants y
  tested : InTest y
  had : (p s : ℕ) → had_retest (facts_of y) p s ≡ any_retest p s rs

some_alone : (xs : List Record) (b : Bool) (r : Record) → (ltb 0 (length xs) || b) ≡ ltb 0 (length (xs ++ alone b r))
some_alone xs true r = or-true (ltb 0 (length xs)) ∙ sym (some_more xs r)
some_alone xs false r = rw (append-nil xs) (or-false (ltb 0 (length xs)))

had-step : {y : Year} {rs : List Record} → Had y rs → (c : Call) → Had (step y c) (rs ++ record_from (shown y c))
had-step {y} {rs} h c = rw (step_by y c) (go (accepts y c) refl)
  where
    go : (b : Bool) → accepts y c ≡ b → Had (cond b (year_with y (record_in c.bytes)) y) (rs ++ alone b (record_in c.bytes))
    go false e = rw (append-nil rs) h
    go true e =
        let r = record_in c.bytes in
        let by = had_by h.kept h.tested (does r.head) (accepted-admitted y c e) (accepted-sound h.kept.sound c e) in
        record {
          kept = rw (step_by y c, e) at (kept_step h.kept c);
          tested = by.0;
          had = λ p s. by.1 p s ∙ rw (h.had p s, gather-more (λ q. alone (is_retest_at p s q.head) q) rs r) (some_alone (gather (λ q. alone (is_retest_at p s q.head) q) rs) (is_retest_at p s r.head) r);
        }

had-run : {y : Year} {rs : List Record} → Had y rs → (cs : List Call) → Had (run y cs) (rs ++ accepted_in (answers y cs))
unfolding run answered gather
had-run {rs = rs} h [] = rw (append-nil rs) h
had-run {y} {rs} h (c ∷ cs) =
    let new = record_from (shown y c) in
    rw (append_assoc rs new (accepted_in (answers (step y c) cs))) at (had-run {y = step y c} (had-step h c) cs)

pub had-retest : (cs : List Call) (p s : ℕ) → let rs = accepted_in (answers new_year cs) in had_retest (facts_of (recorded rs)) p s ≡ any_retest p s rs
unfolding gather
had-retest cs p s =
    let none = blank kept_new.sound refl in
    let first : Had new_year [] = record { kept = kept_new; tested = λ i m e. never (none i) e; had = none-had new_year none } in
    let facts = ap facts_of (run-years cs) ∙ facts-booked (accepted_in (answers new_year cs)) in
    sym (ap (λ F. had_retest F p s) facts) ∙ (had-run first cs).had p s
