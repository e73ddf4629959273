-- Demand 3's claims at Year A's close, and why they leave out a seller's own retests.
use Rattle.std.specs.Prelude.{ℕ, List, [], ◌∷◌, ◌++◌, true, cond, ◌≡◌, refl}
use Rattle.std.proofs.Common.{ap, arith, lit≤}
use Rattle.ids.specs.Ids.{holds}
use Rattle.record_layouts.specs.Questions.{rules_by}
use Rattle.record_numbers.specs.Calls.{bytes_by}
use Rattle.year.specs.Year.{new_year}
use Rattle.owed.specs.Facts.{facts_of}
use Rattle.owed.specs.Owed.{test, lse}
use Rattle.statement.specs.Statement.{has_registration, has_obligation}
use Rattle.book_recorded.specs.Recorded.{gather, terms_in, recorded}
use Rattle.record_numbers.specs.Reductions.{reduces_in, is_reduction, with_reductions}
use Rattle.claim_history.specs.Runs.{Call, Answered, is_accepted, is_closing, accepted_in, Variant}
use Rattle.claim_history.specs.Taking.{shown, answers, run}
use Rattle.claim_history.specs.Claim.{AtClose}
use Rattle.claim_history.proofs.YearFollowsRecords.{answers-more}
use Rattle.claim_history.specs.NotEmpty.{chosen, variant-one}
use Rattle.claim_history.proofs.Theorem.{demand3}
use Rattle.bill_step.specs.Answer.{calls as calls_in}
use Rattle.claim_year_a.specs.YearA.{blank, parties, june_test, bill}
use Rattle.claim_year_a_figures.specs.Figures.{with_third, test_of_three}

-- Year A's close, after the six records before it: it is accepted, so demand 3's claims at a close are made of it; and what they say there.
abbrev earlier : List Call
earlier = calls_in (parties ++ june_test) blank

abbrev close : Call
close = record { bytes = 0x61 ∷ []; buffer = blank }

abbrev before : List Answered
before = answers new_year earlier

closed : is_closing (shown (run new_year earlier) close) ≡ true
unfolding bill
closed = refl

claimed : AtClose before (shown (run new_year earlier) close)
claimed = (demand3 (earlier ++ close ∷ [])).closed before (shown (run new_year earlier) close) [] (answers-more new_year earlier close) closed

claim-figures : (test (facts_of (recorded (accepted_in before))) 1 0 ≡ 147600) × (lse (facts_of (recorded (accepted_in before))) 1 0 ≡ 110700) × (lse (facts_of (recorded (accepted_in before))) 1 1 ≡ 36900)
    × (has_registration (terms_in (accepted_in before)) 0 ≡ true) × (has_obligation (terms_in (accepted_in before)) 1 ≡ true)
unfolding bill
claim-figures = (refl, refl, refl, refl, refl)

-- Why demand 3 leaves out a seller's own retests where it says that the same records are accepted: a June retest of registration 0 is accepted after that test; with 3,001 kW in
-- both entries of seller 0's nothing failed, and it is refused.
abbrev registered : List Call
registered = calls_in with_third blank

abbrev tested : Call
tested = record { bytes = test_of_three; buffer = blank }

abbrev retested : Call
retested = record { bytes = 0x90 ∷ 0x20 ∷ 0x81 ∷ 0x00 ∷ 0x07 ∷ 0x08 ∷ []; buffer = blank }

accepted-otherwise : ((H G : List Call) → Variant 0 [] (answers new_year H) G → gather (λ x. is_accepted x ∷ []) (answers new_year G) ≡ gather (λ x. is_accepted x ∷ []) (answers new_year H)) → ⊥
unfolding bill reduces_in is_reduction with_reductions rules_by bytes_by
accepted-otherwise alike =
    let rs = accepted_in (answers new_year registered) in
    let varied = chosen 0 rs (run new_year registered) tested refl (λ j. 3001) (λ j. lit≤ tt) blank refl in
    let e = alike (registered ++ tested ∷ retested ∷ []) _ (variant-one 0 registered (retested ∷ []) varied) in
    let last : ◌≡◌ {A = ℕ} 0 1 = ap (λ bs. cond (holds bs 7) 1 0) e in
    absurd (omega (arith, last))
