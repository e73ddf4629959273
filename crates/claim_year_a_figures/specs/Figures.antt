-- Year A and its edges, computed over the definitions: from the bytes of the records to the printed lines.
use Rattle.std.specs.Prelude.{ℕ, List, [], ◌∷◌, ◌++◌, map, ◌≡◌, refl}
use Rattle.year.specs.Year.{new_year}
use Rattle.owed.specs.Owed.{compliance, test, credit, lse}
use Rattle.claim_history.specs.Runs.{statements}
use Rattle.claim_history.specs.Taking.{answers}
use Rattle.claim_history.specs.Files.{numbers}
use Rattle.bill_step.specs.Answer.{calls as calls_in}
use Rattle.claim_year_a.specs.YearA.{bytes, blank, parties, june_test, stated, others, year_a, with_events, bill, owed_by}

-- Year A: each record's number, the buffer that each is lent (as the one before left it; one record more shows what the last leaves), the
-- statement, and the printed lines. Of the others: 400 kW convert to 396, less 100 is 296:
-- × 10,000 / 52 = 56,923 a day, × 366 / 1,000 = 20,833; 500 kW convert to 495, less 50 is 445: × 18,000 × 366 / 1,000 = 2,931,660.
figures : (numbers (answers new_year (calls_in year_a blank)) ≡ 0 ∷ 0 ∷ 0 ∷ 0 ∷ 0 ∷ 0 ∷ 0 ∷ 15 ∷ [])
    × (map (λ c. c.buffer) (calls_in (year_a ++ (0x61 ∷ [])) blank) ≡ blank ∷ blank ∷ blank ∷ blank ∷ blank ∷ blank ∷ blank ∷ stated ∷ stated ∷ [])
    × (statements (answers new_year (calls_in year_a blank)) ≡ stated ∷ [])
    × (bill year_a ≡ bytes "M 1\nS 0 0 147600 0\nS 1 0 0 0\nL 0 110700\nL 1 36900\nN 8 15\n")
    × (bill others ≡ [])
    × (compliance (owed_by others) 13 3 ≡ 20833) × (test (owed_by others) 13 4 ≡ 2931660) × (lse (owed_by others) 13 5 ≡ 2952493)
unfolding bill
figures = (refl, refl, refl, refl, refl, refl, refl, refl)

-- instead of the test the June event, which is charged from close 5 on; two September events divide its charge by 3 from then on
event-figures : bill with_events
    ≡ bytes "M 1\nS 0 0 0 0\nS 1 0 0 0\nL 0 0\nL 1 0\nM 2\nS 0 0 0 0\nS 1 0 0 0\nL 0 0\nL 1 0\n"
    ++ bytes "M 3\nS 0 0 0 0\nS 1 0 0 0\nL 0 0\nL 1 0\nM 4\nS 0 0 0 0\nS 1 0 0 0\nL 0 0\nL 1 0\n"
    ++ bytes "M 5\nS 0 313650 0 0\nS 1 0 0 45900\nL 0 200812\nL 1 66938\n"
    ++ bytes "M 6\nS 0 -63551 0 0\nS 1 0 0 9000\nL 0 -54413\nL 1 -18138\n"
unfolding bill
event-figures = refl

-- Clearings of registration 0, 1 kW at 100 and 3 kW at 201, make its rate 703 / 4, 175; one of registration 2, which is not known, is refused
-- with 10. At close 1 the test costs 410 × (175 + 2,000) × 30 / 1,000, 26,752.
abbrev with_clearings : List ℕ
with_clearings =
    parties
    ++ ((0x70 ∷ 0x00 ∷ 0x0C ∷ 0x80 ∷ 0x00 ∷ 0x10 ∷ 0x70 ∷ 0x00 ∷ 0x19 ∷ 0x20 ∷ 0x00 ∷ 0x30 ∷ 0x70 ∷ 0x80 ∷ 0x19 ∷ 0x20 ∷ 0x00 ∷ 0x30 ∷ [])
    ++ (june_test ++ (0x61 ∷ [])))

clearing-figures : bill with_clearings ≡ bytes "N 8 10\nM 1\nS 0 0 26752 0\nS 1 0 0 0\nL 0 20064\nL 1 6688\n"
unfolding bill
clearing-figures = refl

-- Registration 2, of 400 kW at 0 in the area of both, borrows (1,000 × 10,000 + 2,000 × 15,000) / 3,000, 13,333; it gives nothing in a test of its
-- own zone: 410 × (13,333 + 2,666) × 30 / 1,000, 196,787.
abbrev with_borrower : List ℕ
with_borrower =
    parties
    ++ ((0x20 ∷ 0x88 ∷ 0xA0 ∷ 0x03 ∷ 0x20 ∷ 0x00 ∷ 0x00 ∷ [])
    ++ ((0x54 ∷ 0x08 ∷ 0x00 ∷ 0x84 ∷ 0x00 ∷ 0x00 ∷ []) ++ (0x61 ∷ [])))

borrowed-figures : bill with_borrower ≡ bytes "M 1\nS 0 0 0 0\nS 1 0 0 0\nS 2 0 196787 0\nL 0 147590\nL 1 49197\n"
unfolding bill
borrowed-figures = refl

-- Registration 2, of seller 0 too, commits 3,001 kW at 10,000 and gives them in the June test, so that 1,000 of its 4,001 kW failed, less than a quarter. Close 1 charges
-- 400 kW as in Year A. In July registration 0 gives 900: 100 kW convert to 102, × 12,000 × 61 / 1,000 is 74,664 to date, 72,936 less. A second retest is refused with 20.
abbrev pub with_third : List ℕ
with_third = parties ++ (0x20 ∷ 0x80 ∷ 0x90 ∷ 0x17 ∷ 0x72 ∷ 0x27 ∷ 0x10 ∷ [])

abbrev pub test_of_three : List ℕ
test_of_three = 0x52 ∷ 0x08 ∷ 0x01 ∷ 0x80 ∷ 0x02 ∷ 0x58 ∷ 0x04 ∷ 0x10 ∷ 0x68 ∷ 0x10 ∷ 0x2E ∷ 0xE4 ∷ []

abbrev july_retest : List ℕ
july_retest = 0x90 ∷ 0x21 ∷ 0x01 ∷ 0x00 ∷ 0x07 ∷ 0x08 ∷ []

retest-figures : bill (with_third ++ (test_of_three ++ (0x61 ∷ july_retest ++ (july_retest ++ (0x62 ∷ [])))))
    ≡ bytes "M 1\nS 0 0 147600 0\nS 1 0 0 0\nL 0 110700\nL 1 36900\nN 10 20\nM 2\nS 0 0 -72936 0\nS 1 0 0 0\nL 0 -54702\nL 1 -18234\n"
unfolding bill
retest-figures = refl

-- Registration 2, Annual, of seller 0 and in the area of both, commits 2,000 kW at 15,000. A June event with two reductions (C-17) lists 0 with 600 and 1,500, 1 with 2,100 and 0, 2 with 2,000 and 1,000; seller 0 has a
-- deficit of 100. First 400 kW convert to 410, less 100 is 310: × 10,000 / 2 is 1,550,000 a day, at close 5 237,150 to date and at close 13 565,750. Off-peak 1,000 kW of registration 2 convert to 1,026, less 100
-- is 926: × 15,000 / 52 is 267,115 a day, at close 13 97,496. Seller 1 is credited 300,000 a day, 45,900 and 109,500; LSE 0 has three quarters of 191,250, then of 553,746.
abbrev with_dual : List ℕ
with_dual =
    parties
    ++ ((0x20 ∷ 0x80 ∷ 0x98 ∷ 0x0F ∷ 0xA0 ∷ 0x3A ∷ 0x98 ∷ [])
    ++ (0x82 ∷ 0x21 ∷ 0x06 ∷ 0x00 ∷ 0x00 ∷ 0xC8 ∷ 0x00 ∷ 0x09 ∷ 0x60 ∷ 0x0B ∷ 0xB8 ∷ 0x08 ∷ 0x20 ∷ 0xD0 ∷ 0x00 ∷ 0x00 ∷ 0x10 ∷ 0x1F ∷ 0x40 ∷ 0x07 ∷ 0xD0 ∷ []))

dual-figures : (numbers (answers new_year (calls_in with_dual blank)) ≡ 0 ∷ 0 ∷ 0 ∷ 0 ∷ 0 ∷ 0 ∷ 0 ∷ [])
    × (compliance (owed_by with_dual) 5 0 ≡ 237150) × (compliance (owed_by with_dual) 13 0 ≡ 663246)
    × (credit (owed_by with_dual) 5 1 ≡ 45900) × (credit (owed_by with_dual) 13 1 ≡ 109500)
    × (lse (owed_by with_dual) 5 0 ≡ 143437) × (lse (owed_by with_dual) 13 0 ≡ 415309) × (lse (owed_by with_dual) 13 1 ≡ 138437)
unfolding bill
dual-figures = (refl, refl, refl, refl, refl, refl, refl, refl)
