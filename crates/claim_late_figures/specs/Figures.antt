-- Events that come late (C-16), computed over the definitions: from the bytes of the records to the printed lines, and against document 01's question 11.
use Rattle.std.specs.Prelude.{ℕ, List, [], ◌∷◌, ◌++◌, true, false, ◌≡◌, refl}
use Rattle.std.proofs.Common.{ap, sym, ◌∙◌, arith}
use Rattle.ids.specs.Ids.{at}
use Rattle.year.specs.Year.{new_year}
use Rattle.owed.specs.Owed.{compliance, test, credit, lse}
use Rattle.question_list.specs.Questions.{in_time}
use Rattle.claim_history.specs.Runs.{Call}
use Rattle.claim_history.specs.Taking.{answers}
use Rattle.claim_history.specs.Files.{numbers}
use Rattle.claim_late.specs.Late.{none_late, answers_under}
use Rattle.bill_step.specs.Answer.{calls as calls_in}
use Rattle.claim_year_a.specs.YearA.{bytes, blank, parties, june_event, with_events, bill, owed_by}

-- Year A's June event taken after close 5 (C-16; document 01 gives it 11 there): close 6 has the whole of its amount to date. 2,050,000 × 183 / 1,000 is 375,150; seller 1 is credited
-- at most 100 × 15,000 / 5, 300,000 a day, × 183 / 1,000, 54,900; LSE 0 has three quarters of the other 320,250.
abbrev with_late : List ℕ
with_late = parties ++ ((0x61 ∷ 0x62 ∷ 0x63 ∷ 0x64 ∷ 0x65 ∷ []) ++ (june_event ++ (0x66 ∷ [])))

late-figures : bill with_late
    ≡ bytes "M 1\nS 0 0 0 0\nS 1 0 0 0\nL 0 0\nL 1 0\nM 2\nS 0 0 0 0\nS 1 0 0 0\nL 0 0\nL 1 0\nM 3\nS 0 0 0 0\nS 1 0 0 0\nL 0 0\nL 1 0\n"
    ++ bytes "M 4\nS 0 0 0 0\nS 1 0 0 0\nL 0 0\nL 1 0\nM 5\nS 0 0 0 0\nS 1 0 0 0\nL 0 0\nL 1 0\n"
    ++ bytes "M 6\nS 0 375150 0 0\nS 1 0 0 54900\nL 0 240187\nL 1 80063\n"
unfolding bill
late-figures = refl

-- What a late event does to what is billed. In a June test registration 0 gives all of its 1,000 kW, registration 1 1,600 of 2,000: 410 × 18,000 is 7,380,000 a day, × 153 / 1,000 = 1,129,140 at close 5.
-- Events of July and August list registration 0 with 600; that of July is due then, 313,650. Then comes the June event: at close 6 the three cost 1,366,666 × 183 / 1,000 = 250,099 each, nothing is left of
-- the test, and seller 1 is credited 54,900. LSE 0 has three quarters of 1,442,790, then of 695,397.
abbrev with_earlier : List ℕ
with_earlier =
    parties
    ++ ((0x52 ∷ 0x08 ∷ 0x01 ∷ 0x00 ∷ 0x03 ∷ 0xE8 ∷ 0x04 ∷ 0x0C ∷ 0x80 ∷ 0x61 ∷ 0x62 ∷ 0x63 ∷ 0x64 ∷ [])
    ++ (0x42 ∷ 0x48 ∷ 0x00 ∷ 0x80 ∷ 0x02 ∷ 0x58 ∷ 0x42 ∷ 0x68 ∷ 0x00 ∷ 0x80 ∷ 0x02 ∷ 0x58 ∷ 0x65 ∷ []))

repriced-figures : (compliance (owed_by with_earlier) 5 0 ≡ 313650) × (test (owed_by with_earlier) 5 1 ≡ 1129140) × (lse (owed_by with_earlier) 5 0 ≡ 1082092)
    × (compliance (owed_by (with_earlier ++ june_event)) 6 0 ≡ 750297) × (test (owed_by (with_earlier ++ june_event)) 6 1 ≡ 0) × (credit (owed_by (with_earlier ++ june_event)) 6 1 ≡ 54900)
    × (lse (owed_by (with_earlier ++ june_event)) 6 0 ≡ 521547) × (lse (owed_by (with_earlier ++ june_event)) 6 1 ≡ 173850)
unfolding bill
repriced-figures = (refl, refl, refl, refl, refl, refl, refl, refl)

-- No event of `with_events` comes late, so that list is answered as by document 01's question 11; in `with_late` one does, which that gives 11.
before-and-late : (none_late [] (answers new_year (calls_in with_events blank)) ≡ true) × (none_late [] (answers new_year (calls_in with_late blank)) ≡ false)
    × (numbers (answers_under in_time new_year (calls_in with_late blank)) ≡ 0 ∷ 0 ∷ 0 ∷ 0 ∷ 0 ∷ 0 ∷ 0 ∷ 0 ∷ 0 ∷ 0 ∷ 11 ∷ 0 ∷ [])
    × (numbers (answers new_year (calls_in with_late blank)) ≡ 0 ∷ 0 ∷ 0 ∷ 0 ∷ 0 ∷ 0 ∷ 0 ∷ 0 ∷ 0 ∷ 0 ∷ 0 ∷ 0 ∷ [])
unfolding bill none_late in_time
before-and-late = (refl, refl, refl, refl)

-- So that no event comes late cannot be left out.
answered-otherwise : ((H : List Call) → answers_under in_time new_year H ≡ answers new_year H) → ⊥
answered-otherwise same =
    let e = ap (λ xs. at (numbers xs) 10) (same (calls_in with_late blank)) in
    let n : ◌≡◌ {A = ℕ} 11 0 = sym (ap (λ ns. at ns 10) before-and-late.2) ∙ e ∙ ap (λ ns. at ns 10) before-and-late.3 in
    omega (arith, n)
