-- Figures of the definitions: document 01's starred ones in one table, those of document 02's C-11 to C-13 and C-15 to C-17, and more that were worked by hand.
use Rattle.std.specs.Prelude.{ℕ, ◌+◌, ◌*◌, List, [], ◌∷◌, map, Bool, true, false, ◌≡◌, refl, length, get_or}
use Rattle.ids.specs.Ids.{at, holds, sum_to, any_to}
use Rattle.units.specs.Units.{convert}
use Rattle.limits.specs.Limits.{registrations}
use Rattle.calendar.specs.Calendar.{limited, annual, off_peak, days, due}
use Rattle.allotment.specs.Allot.{share}
use Rattle.allotment.specs.Divisions.{divisions}
use Rattle.year.specs.declared.Registration.{Registration}
use Rattle.year.specs.declared.Clearings.{Clearings}
use Rattle.year.specs.declared.Listing.{Listing}
use Rattle.year.specs.declared.Event.{Event}
use Rattle.year.specs.declared.Test.{Test}
use Rattle.year.specs.declared.Retest.{Retest}
use Rattle.year.specs.Year.{no_registration, no_clearings, no_event, no_test, no_retest, listed, reduction, second, deficit, known, area, product, committed, field_rate, obligation}
use Rattle.owed.specs.Facts.{Facts}
use Rattle.owed.specs.Divisions.{u_divisions, off_divisions, e_divisions, divisions_of, credit_divisions, lse_divisions}
use Rattle.owed.specs.Owed.{before_cap, raised, unforced, own, of_area, area_rate, rate, of_seller, share_of, dispatched, dispatch_count, shortfall_over, u, measured, off_u, asked, cap, daily, spent, revenue, charge, excess, e, credit_limit, result, test_shortfall, B, test_charge}
use Rattle.owed.specs.Retests.{below_quarter, test_entry, failed, tested_kw, failed_kw, had_retest}

-- facts with Year A's factors, by what is listed of each
abbrev facts_by : List Registration → List ℕ → List Clearings → List Event → List Test → List Retest → Facts
facts_by registrations obligations clearings events tests retests =
    record {
      terms = record { leap = 0; factor = 9500; requirement = 10800; registrations = registrations; obligations = obligations };
      seller = λ i. (get_or registrations i no_registration).seller;
      clearings = λ i. get_or clearings i no_clearings;
      events = length events;
      event = λ ev. get_or events ev no_event;
      test = λ p. get_or tests p no_test;
      retest = λ i. get_or retests i no_retest;
    }

-- a registration by seller, area, product, committed kW and rate, known or not
abbrev entered : Bool → ℕ → ℕ → ℕ → ℕ → ℕ → Registration
entered known seller area product committed rate =
    record { known = known; seller = seller; area = area; zone = 0; product = product; committed = record { 0 = committed }; rate = rate }

abbrev registered : ℕ → ℕ → ℕ → ℕ → ℕ → Registration
registered = entered true

-- what a June event of area 1, and a June test, list
abbrev event : Listing → ℕ → Bool → Event
event l period dual = record { area = 1; month = 1; period = period; dual = dual; listing = l }

abbrev tested : Listing → Test
tested l = record { taken = true; month = 1; listing = l }

abbrev plain : List Bool → List ℕ → Listing
plain listed reductions = record { listed = listed; reductions = reductions; second = []; deficits = [] }

-- Year A, with registration 0 of this product and registration 1 of this seller; registration 2, of 400 kW at 0, in their area, registration 3, at 0
-- too, alone in another; the row of registration 4, which is not known, says 700 kW at 20,000 in their area. Events of these periods list these
-- registrations, a test all in the area, with reductions of v, 2,100 and v. Registration 0 has so many clearings, of this price × kW and kW in all.
abbrev cleared : ℕ → ℕ → ℕ → ℕ → ℕ → List ℕ → List Bool → ℕ → Facts
cleared count value kw product seller periods listed v =
    facts_by
    (registered 0 1 product 1000 10000 ∷ registered seller 1 limited 2000 15000 ∷ registered 2 1 limited 400 0 ∷ registered 3 2 limited 500 0 ∷ entered false 0 1 limited 700 20000 ∷ [])
    (3000 ∷ 1000 ∷ [])
    (record { count = count; value = value; kw = kw } ∷ [])
    (map (λ period. event (plain listed (v ∷ 2100 ∷ v ∷ [])) period false) periods)
    (tested (plain (true ∷ true ∷ true ∷ []) (v ∷ 2100 ∷ v ∷ [])) ∷ [])
    []

abbrev year_a : ℕ → ℕ → List ℕ → List Bool → ℕ → Facts
year_a = cleared 0 0 0

-- with one on-peak event of both registrations
abbrev A : Facts
A = year_a limited 1 (1 ∷ []) (true ∷ true ∷ []) 600

-- with an Annual twin of registration 0, which reduces nothing in two on-peak events and an off-peak third
abbrev twin : Facts
twin = year_a annual 1 (1 ∷ 1 ∷ off_peak ∷ []) (true ∷ true ∷ []) 0

figures : (unforced A 400 ≡ 410)
    × (share 3 (λ i. 1) 10 0 ≡ 3) × (share 3 (λ i. 1) 10 1 ≡ 3) × (share 3 (λ i. 1) 10 2 ≡ 4)
    × (share 2 (at (0 ∷ 5 ∷ [])) 10 0 ≡ 0) × (share 2 (at (0 ∷ 5 ∷ [])) 10 1 ≡ 10) × (share 1 (at (0 ∷ [])) 10 0 ≡ 0)
    × (u A 0 0 ≡ 410) × (daily A 0 0 0 ≡ 2050000)
    × (before_cap 1 1 410 10000 ≡ 2050000) × (before_cap 1 2 410 10000 ≡ 2050000) × (before_cap 1 3 410 10000 ≡ 1366666)
    × (before_cap off_peak 0 410 10000 ≡ 78846)
    × (u twin 0 0 ≡ 1026) × (u twin 1 0 ≡ 1026) × (cap twin 0 ≡ 10260000) × (spent twin 2 0 ≡ 10260000) × (spent twin 3 0 ≡ 10260000)
    × (due limited 1 ≡ 5) × (due limited 4 ≡ 7) × (due annual 12 ≡ 15)
unfolding sum_to convert due share before_cap unforced own of_area area_rate rate of_seller share_of dispatch_count shortfall_over u cap measured off_u asked daily spent listed reduction second deficit known area product committed field_rate obligation
figures =
    (refl, refl, refl, refl, refl, refl, refl, refl, refl, refl, refl, refl, refl, refl, refl, refl, refl, refl, refl, refl, refl)

-- 1,000 committed and 600 given leave 400 kW, which convert to 410; less a deficit of 100 that is 310. Taken off before
-- conversion it would leave 300 kW, which convert to 307.
deficit-figure : shortfall_over A (holds (true ∷ true ∷ [])) (at (600 ∷ 2100 ∷ [])) (at (100 ∷ [])) 0 ≡ 310
unfolding sum_to convert unforced of_seller shortfall_over listed reduction second deficit known area product committed field_rate obligation
deficit-figure = refl

-- a fifth of 5,000 is below 2,000, of 20,000 above
raised-figures : (raised 5000 ≡ 7000) × (raised 20000 ≡ 24000)
unfolding raised
raised-figures = (refl, refl)

-- both registrations are seller 0's, and an event lists the second: B is the first's rate, 10,000. Over all entries of the test it would be 13,333.
base-figure : B (year_a limited 0 (1 ∷ []) (false ∷ true ∷ []) 600) 0 0 ≡ 10000
unfolding sum_to any_to own of_area area_rate rate of_seller dispatched B listed reduction second deficit known area product committed field_rate obligation
base-figure = refl

-- three on-peak events: n is 3 for the first of them too, and 1,366,666 × 183 / 1,000 is 250,099 from its due month on. Rounded to cents before, it would be 249,978.
days-figure : (charge (year_a limited 1 (1 ∷ 1 ∷ 1 ∷ []) (true ∷ true ∷ []) 600) 6 0 0 ≡ 250099)
    × (charge (year_a limited 1 (1 ∷ 1 ∷ 1 ∷ []) (true ∷ true ∷ []) 600) 4 0 0 ≡ 0)
unfolding sum_to convert days due share before_cap unforced own of_area area_rate rate of_seller share_of dispatch_count shortfall_over u cap measured off_u asked daily spent charge listed reduction second deficit known area product committed field_rate obligation
days-figure = (refl, refl)

-- A's event at close 6, past its due month, whether it came before close 5 or after: 2,050,000 × 183 / 1,000 to date
late-figure : charge A 6 0 0 ≡ 375150
unfolding sum_to convert days due share before_cap unforced own of_area area_rate rate of_seller share_of dispatch_count shortfall_over u cap measured off_u asked daily spent charge listed reduction second deficit known area product committed field_rate obligation
late-figure = refl

-- A with both registrations seller 0's, which is short: registration 1 has no excess, though it gives 100 more
abbrev both_of_one : Facts
both_of_one = year_a limited 0 (1 ∷ []) (true ∷ true ∷ []) 600

excess-figure : e both_of_one 0 1 ≡ 0
unfolding sum_to share of_seller share_of excess e listed reduction second deficit known area product committed field_rate obligation
excess-figure = refl

-- A with such clearings of registration 0
abbrev cleared_a : ℕ → ℕ → ℕ → Facts
cleared_a clearings value kw = cleared clearings value kw limited 1 (1 ∷ []) (true ∷ true ∷ []) 600

-- clearings of 1 kW at 100 and 3 kW at 201 give 703 / 4, rounded down (the plain average would be 150, the last alone 201); one of 5 kW at 0
-- gives 0 of its own though the field says 10,000; without a clearing it is the field. At 175 a day costs 410 × 175 / 2, the cap is 1,026 × 175, revenue to
-- the end of June 30 times that, B is 175, and 200 kW of excess are credited at most 200 × 175 / 5 a day: 30 days of these are 210 cents.
clearing-figures : (rate (cleared_a 2 (1 * 100 + 3 * 201) (1 + 3)) 0 ≡ 175) × (own (cleared_a 1 0 5) 0 ≡ 0) × (rate A 0 ≡ 10000)
    × (daily (cleared_a 2 703 4) 0 0 0 ≡ 35875) × (cap (cleared_a 2 703 4) 0 ≡ 179550) × (revenue (cleared_a 2 703 4) 1 0 ≡ 5386500)
    × (B (cleared 2 703 4 limited 1 [] [] 600) 0 0 ≡ 175)
    × (credit_limit (cleared 2 703 4 limited 1 (1 ∷ []) (true ∷ true ∷ []) 1200) 1 0 0 ≡ 210)
unfolding sum_to any_to convert days share before_cap unforced own of_area area_rate rate of_seller share_of dispatched dispatch_count shortfall_over u cap measured off_u asked daily spent revenue excess e credit_limit B listed reduction second deficit known area product committed field_rate obligation
clearing-figures = (refl, refl, refl, refl, refl, refl, refl, refl)

-- the third borrows the average of 1,000 kW at 10,000 and 2,000 kW at 15,000, 40,000,000 / 3,000 rounded down; with its own 400 kW in the divisor it would be
-- 11,764, with weights of 1 it would be 12,500. Alone in its area registration 3 stays at 0; registration 4 has no rate, and adds none. Where registration
-- 0's clearings come to 0 it borrows too, of registration 1 alone.
-- At 13,333 a day without any reduction costs 410 × 13,333 / 2, the cap is 410 × 13,333, revenue to the end of June 30 times that, B is 13,333, and
-- 200 kW of excess are credited at most 200 × 13,333 / 5 a day, 30 days of which are 15,999 cents.
borrowed-figures : (rate A 2 ≡ 13333) × (rate A 3 ≡ 0) × (rate A 4 ≡ 0) × (rate (cleared_a 1 0 5) 0 ≡ 15000) × (rate (cleared_a 1 0 5) 2 ≡ 15000)
    × (daily (year_a limited 1 (1 ∷ []) (false ∷ false ∷ true ∷ []) 0) 0 0 2 ≡ 2733265) × (cap A 2 ≡ 5466530) × (revenue A 1 2 ≡ 163995900)
    × (B (year_a limited 1 [] [] 600) 0 2 ≡ 13333)
    × (credit_limit (year_a limited 1 (1 ∷ []) (false ∷ false ∷ true ∷ []) 600) 1 0 2 ≡ 15999)
unfolding sum_to any_to convert days share before_cap unforced own of_area area_rate rate of_seller share_of dispatched dispatch_count shortfall_over u cap measured off_u asked daily spent revenue excess e credit_limit B listed reduction second deficit known area product committed field_rate obligation
borrowed-figures = (refl, refl, refl, refl, refl, refl, refl, refl, refl, refl)

-- Three parties divide three times, and never where their weights are all 0; no party never does. In A seller 0's entry is short 400 kW and seller 1's gives
-- 100 more: one division each, none where nothing is lacking or nothing given more; both entries divide the charges, though the first has no excess; two
-- of sixteen LSEs are known. Where both entries are seller 0's, which is short, u and e divide by two, e of an excess of 0, and the credits never.
division-figures : (divisions 3 1 ≡ 3) × (divisions 3 0 ≡ 0) × (divisions 0 5 ≡ 0)
    × (u_divisions A 0 0 ≡ 1) × (u_divisions A 0 1 ≡ 0) × (e_divisions A 0 0 ≡ 0) × (e_divisions A 0 1 ≡ 1) × (credit_divisions A 0 ≡ 2) × (lse_divisions A ≡ 2)
    × (u_divisions both_of_one 0 0 ≡ 2) × (e_divisions both_of_one 0 0 ≡ 2) × (credit_divisions both_of_one 0 ≡ 0)
unfolding sum_to share divisions of_seller share_of excess e divisions_of credit_divisions lse_divisions listed reduction second deficit known area product committed field_rate obligation
division-figures = (refl, refl, refl, refl, refl, refl, refl, refl, refl, refl, refl, refl)

-- Failed kW of a quarter are too many, and so are they of a seller that tested none; none failed is nothing to retest.
quarter-figures : (below_quarter 1000 4001 ≡ true) × (below_quarter 1000 4000 ≡ false) × (below_quarter 1 4 ≡ false) × (below_quarter 1 5 ≡ true)
    × (below_quarter 0 4001 ≡ false) × (below_quarter 0 0 ≡ false)
unfolding below_quarter
quarter-figures = (refl, refl, refl, refl, refl, refl)

-- The test of group 0 lists seller 0's registrations of 1,000, 2,000 and 1,001 kW, with reductions of v, 2,100 and 1,001, and seller 1's of 500 kW with 100, all at 10,000.
-- Registration 0 is retested or not, with w. An event lists these registrations.
abbrev retried : ℕ → Bool → ℕ → List Bool → Facts
retried v again w listed =
    facts_by
    (registered 0 1 limited 1000 10000 ∷ registered 0 1 limited 2000 10000 ∷ registered 0 1 limited 1001 10000 ∷ registered 1 1 limited 500 10000 ∷ [])
    (3000 ∷ [])
    []
    (event (plain listed []) 1 false ∷ [])
    (tested (record { listed = true ∷ true ∷ true ∷ true ∷ []; reductions = v ∷ 2100 ∷ 1001 ∷ 100 ∷ []; second = []; deficits = 0 ∷ 100 ∷ [] }) ∷ [])
    (record { taken = again; reduction = w } ∷ [])

-- Of seller 0's 4,001 kW the 1,000 of registration 0 failed: 1,001 given of 1,001 is no failure. So it stays when the retest gives 1,000, and when an event lists
-- registration 0. Seller 1 failed with all of its 500 kW, seller 2 tested nothing, nor did anybody in group 1.
failed-figures : (tested_kw (retried 400 false 0 []) 0 0 ≡ 4001) × (failed_kw (retried 400 false 0 []) 0 0 ≡ 1000)
    × (failed_kw (retried 400 true 1000 []) 0 0 ≡ 1000) × (failed_kw (retried 1000 true 400 []) 0 0 ≡ 0) × (failed_kw (retried 400 false 0 (true ∷ [])) 0 0 ≡ 1000)
    × (tested_kw (retried 400 false 0 []) 0 1 ≡ 500) × (failed_kw (retried 400 false 0 []) 0 1 ≡ 500)
    × (tested_kw (retried 400 false 0 []) 0 2 ≡ 0) × (tested_kw (retried 400 false 0 []) 1 0 ≡ 0)
    × (had_retest (retried 400 false 0 []) 0 0 ≡ false) × (had_retest (retried 400 true 0 []) 0 0 ≡ true) × (had_retest (retried 400 true 0 []) 0 1 ≡ false)
    × (had_retest (retried 400 true 0 []) 1 0 ≡ false)
unfolding sum_to any_to test_entry failed tested_kw failed_kw had_retest listed reduction second deficit known area product committed field_rate obligation
failed-figures = (refl, refl, refl, refl, refl, refl, refl, refl, refl, refl, refl, refl, refl)

-- First, 3,501 of 4,001 kW are given: 500 kW convert to 513, at 12,000 and for 30 days 184,680 cents. Retested with 900 nothing is short; with 1,000 neither, though more
-- is given; with 0, worse, 900 kW convert to 923: 332,280 cents. Once an event lists registration 0 neither result counts. Seller 1 stays short of 400 kW, 410 less its deficit of 100.
retest-figures : (result (retried 400 false 900 []) 0 0 ≡ 400) × (result (retried 400 true 900 []) 0 0 ≡ 900) × (result (retried 400 true 0 []) 0 0 ≡ 0)
    × (test_charge (retried 400 false 900 []) 1 0 0 ≡ 184680) × (test_charge (retried 400 true 900 []) 1 0 0 ≡ 0) × (test_charge (retried 400 true 1000 []) 1 0 0 ≡ 0)
    × (test_charge (retried 400 true 0 []) 1 0 0 ≡ 332280) × (test_charge (retried 400 true 0 (true ∷ [])) 1 0 0 ≡ 0)
    × (test_shortfall (retried 400 true 0 []) 0 1 ≡ 310)
unfolding sum_to any_to convert days raised unforced own of_area area_rate rate of_seller dispatched shortfall_over result B test_charge listed reduction second deficit known area product committed field_rate obligation
retest-figures = (refl, refl, refl, refl, refl, refl, refl, refl, refl)

-- Events of these periods, some of them dual, list seller 0's Limited registration of 1,000 kW at 10,000 and its Annual one of 2,000 at 15,000, seller 1's Annual one of 500 at 20,000,
-- seller 2's Limited one of 1,000 at 10,000 and seller 3's Annual one of 3,000 at 10,000. First reductions are 600, 2,000, v, 1,100 and 2,990, second ones 1,500, 1,000, 0, 5,000 and 0; seller 0 has a deficit of 100.
abbrev measured_apart : List (ℕ × Bool) → ℕ → Facts
measured_apart periods v =
    let all : Listing = record { listed = true ∷ true ∷ true ∷ true ∷ true ∷ []; reductions = 600 ∷ 2000 ∷ v ∷ 1100 ∷ 2990 ∷ []; second = 1500 ∷ 1000 ∷ 0 ∷ 5000 ∷ 0 ∷ []; deficits = 100 ∷ [] } in
    facts_by
    (registered 0 1 limited 1000 10000 ∷ registered 0 1 annual 2000 15000 ∷ registered 1 1 annual 500 20000 ∷ registered 2 1 limited 1000 10000 ∷ registered 3 1 annual 3000 10000 ∷ [])
    (3000 ∷ [])
    []
    (map (λ (x : ℕ × Bool). event all x.0 x.1) periods)
    []
    []

-- One such event, with 300 kW of seller 1's. First: seller 0's net of 400 kW converts to 410, less 100 is 310, all of its Limited entry; 205 and 10 are sellers 1's and 3's. Off-peak: seller 0's Annual entry lacks 1,000 kW, 1,026 less
-- 100 is 926, and 513 and 3,078 are sellers 1's and 3's; Limited entries have nothing. Before the cap: 310 × 10,000 / 2; 926 × 15,000 / 52; the higher of 205 × 20,000 / 2 and 513 × 20,000 / 52; nothing; the higher of
-- 10 × 10,000 / 2 and 3,078 × 10,000 / 52. To date × 153 and × 365 / 1,000. Seller 2 gives 100 kW more than it committed, by its first figure.
abbrev dual_once : Facts
dual_once = measured_apart ((3, true) ∷ []) 300

dual-figures : (u dual_once 0 0 ≡ 310) × (off_u dual_once 0 0 ≡ 0) × (off_u dual_once 0 1 ≡ 926) × (off_u dual_once 0 2 ≡ 513) × (off_u dual_once 0 3 ≡ 0) × (off_u dual_once 0 4 ≡ 3078)
    × (asked dual_once 0 0 ≡ 1550000) × (asked dual_once 0 1 ≡ 267115) × (asked dual_once 0 2 ≡ 2050000) × (asked dual_once 0 3 ≡ 0) × (asked dual_once 0 4 ≡ 591923)
    × (charge dual_once 5 0 0 ≡ 237150) × (charge dual_once 13 0 1 ≡ 97496) × (e dual_once 0 3 ≡ 100)
    × (u_divisions dual_once 0 0 ≡ 2) × (off_divisions dual_once 0 0 ≡ 1) × (off_divisions dual_once 0 2 ≡ 0)
unfolding sum_to convert days due share before_cap unforced own of_area area_rate rate of_seller share_of dispatch_count shortfall_over u measured off_u asked cap daily spent charge excess e divisions divisions_of listed reduction second deficit known area product committed field_rate obligation
dual-figures = (refl, refl, refl, refl, refl, refl, refl, refl, refl, refl, refl, refl, refl, refl, refl, refl, refl)

-- Two such events and one of period 3 with a single figure: n is 3, 310 × 10,000 / 3; off-peak is still divided by 52; the third is not dual.
abbrev dual_twice : Facts
dual_twice = measured_apart ((3, true) ∷ (3, true) ∷ (3, false) ∷ []) 300

-- An off-peak event, then two such ones, in which seller 1 gives nothing: 513 × 20,000 / 52 is 197,307, then 5,130,000 each, of which the cap of 10,260,000 leaves the last 4,932,693.
abbrev dual_capped : Facts
dual_capped = measured_apart ((off_peak, false) ∷ (3, true) ∷ (3, true) ∷ []) 0

counted-figures : (asked dual_twice 0 0 ≡ 1033333) × (asked dual_twice 0 1 ≡ 267115) × (asked dual_twice 2 1 ≡ 0) × (asked dual_twice 2 4 ≡ 33333)
    × (spent dual_capped 1 2 ≡ 197307) × (spent dual_capped 2 2 ≡ 5327307) × (spent dual_capped 3 2 ≡ 10260000)
unfolding sum_to convert share before_cap unforced own of_area area_rate rate of_seller share_of dispatch_count shortfall_over u measured off_u asked cap daily spent listed reduction second deficit known area product committed field_rate obligation
counted-figures = (refl, refl, refl, refl, refl, refl, refl)
