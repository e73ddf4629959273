-- Questions 6 to 17, 20 and 21 (document 01, 'Questions at the counter'; document 02, C-11, C-15 and C-16), of a year and a record. A record that a question is not put to passes it.
use Rattle.std.specs.Prelude.{ℕ, ◌+◌, max, ◌≡◌, Bool, true, not, ◌&&◌, ◌||◌, List, [], ◌∷◌, leb, ltb, eqb}
use Rattle.ids.specs.Ids.{any_to}
use Rattle.limits.specs.Limits.{event_limit, clearing_limit, close_limit, statement_limit}
use Rattle.calendar.specs.Calendar.{callable, testable}
use Rattle.year.specs.declared.Listing.{Listing}
use Rattle.year.specs.declared.Test.{Test}
use Rattle.year.specs.declared.Terms.{Terms}
use Rattle.year.specs.declared.Year.{Year}
use Rattle.year.specs.Year.{clearings_of, known, seller, product, obligation, size, lse_count, test_at, test_group}
use Rattle.owed.specs.Facts.{facts_of}
use Rattle.owed.specs.Owed.{dispatched}
use Rattle.owed.specs.Retests.{below_quarter, failed, tested_kw, failed_kw, had_retest}
use Rattle.record_layouts.specs.Questions.{first_failed}
use Rattle.record_heads.specs.declared.EventHead.{EventHead}
use Rattle.record_heads.specs.declared.RetestHead.{RetestHead}
use Rattle.record_heads.specs.declared.Head.{Head}
use Rattle.record_heads.specs.Record.{Record, for_opening, for_registration, for_lse, for_event, for_test, for_close, for_clearing, for_retest}
use Rattle.question_conditions.specs.Entries.{in_area, in_group, every_listed, deficits_listed, lists_exactly}

-- has month m begun with z months closed: the time rule for events that is in force (C-16)
unfoldable pub month_begun : ℕ → ℕ → Bool
month_begun z m = leb m (z + 1)

-- document 01's time rule: events of a month were taken until its due month for Limited was closed
unfoldable pub in_time : ℕ → ℕ → Bool
in_time z m = month_begun z m && ltb z (max 5 (m + 3))

-- may a product be tested in month m with z months closed
abbrev pub may_test : ℕ → ℕ → ℕ → Bool
may_test z product m = month_begun z m && testable product m

-- are there a registration and an LSE
abbrev pub has_parties : Terms → Bool
has_parties T = any_to (size T) (known T) && any_to (lse_count T) (λ j. ltb 0 (obligation T j))

abbrev passed : Head → Bool
passed h = true

module _ (y : Year) where
  abbrev T : Terms
  T = y.terms

  -- the test of a zone and product
  abbrev test_in : ℕ → ℕ → Test
  test_in z p = test_at y (test_group z p)

  -- is there a year, with month 15 not closed
  abbrev pub is_open : Bool
  is_open = y.opened && ltb y.closed close_limit

  -- for an opening: is there no year? For others: is there one, with month 15 not closed?
  unfoldable pub q6 : Head → Bool
  q6 = for_opening (λ o. not y.opened) (λ h. is_open)

  -- for registration, LSE and clearing: is no event, test or close accepted yet?
  unfoldable pub q7 : Head → Bool
  q7 = for_registration (λ r. not y.started) (for_lse (λ j. not y.started) (for_clearing (λ c. not y.started) passed))

  -- for event, test, retest and close: are there a registration and an LSE?
  unfoldable pub q8 : Head → Bool
  q8 = for_event (λ e. has_parties T) (for_test (λ t. has_parties T) (for_retest (λ t. has_parties T) (for_close (λ c. has_parties T) passed)))

  -- is a registration's or LSE's id new?
  unfoldable pub q9 : Head → Bool
  q9 = for_registration (λ r. not (known T r.id)) (for_lse (λ j. eqb (obligation T j.id) 0) passed)

  -- is every registration that a retest lists known, of its zone and product, and its seller's
  abbrev pub lists_own : Listing → RetestHead → Bool
  lists_own l t = every_listed T l (in_group T t.zone t.product) && every_listed T l (λ i. eqb (seller T i) t.seller)

  -- is every listed registration known and in the event's area, or the test's zone and product, and has every deficit's seller an entry? Is a clearing's registration known? Is every registration that a retest lists known, of its zone and product, and its seller's?
  unfoldable pub q10 : Listing → Head → Bool
  q10 l =
      for_event (λ e. every_listed T l (in_area T e.area) && deficits_listed T l)
      (for_test (λ t. every_listed T l (in_group T t.zone t.product) && deficits_listed T l)
      (for_clearing (λ c. known T c.registration)
      (for_retest (λ t. lists_own l t) passed)))

  -- has a clearing's registration fewer than four?
  unfoldable pub q17 : Head → Bool
  q17 = for_clearing (λ c. ltb (clearings_of y c.registration).count clearing_limit) passed

  -- does an event's month pass the time rule, and may each listed product be called then
  abbrev pub may_call : (ℕ → ℕ → Bool) → Listing → EventHead → Bool
  may_call rule l e = rule y.closed e.month && every_listed T l (λ i. callable (product T i) e.month e.period)

  -- may a retest's product be tested in its month, and is that, where there was a test, not before the test's
  abbrev pub retest_in_time : RetestHead → Bool
  retest_in_time t =
      let test = test_in t.zone t.product in
      may_test y.closed t.product t.month && (not test.taken || leb test.month t.month)

  -- does an event's month pass the time rule, has a test's and a retest's begun, and may each product be called or tested then? Where there was a test, is a retest's month not before its?
  unfoldable pub q11 : (ℕ → ℕ → Bool) → Listing → Head → Bool
  q11 rule l =
      for_event (λ e. may_call rule l e)
      (for_test (λ t. may_test y.closed t.product t.month)
      (for_retest (λ t. retest_in_time t) passed))

  -- was there a test of a retest's zone and product, has the seller had no retest of it, and are its failed kW below a quarter of its tested kW, and some
  abbrev pub may_retest : RetestHead → Bool
  may_retest t =
      let p = test_group t.zone t.product in
      (test_in t.zone t.product).taken && (not (had_retest (facts_of y) p t.seller) && below_quarter (failed_kw (facts_of y) p t.seller) (tested_kw (facts_of y) p t.seller))

  -- for a retest: may the seller retest?
  unfoldable pub q20 : Head → Bool
  q20 = for_retest (λ t. may_retest t) passed

  -- does a retest list exactly the seller's entries that failed?
  unfoldable pub q21 : Listing → Head → Bool
  q21 l = for_retest (λ t. lists_exactly T l (failed (facts_of y) (test_group t.zone t.product) t.seller)) passed

  -- are fewer than 16 events accepted (for an event)?
  unfoldable pub q12 : Head → Bool
  q12 = for_event (λ e. ltb y.accepted event_limit) passed

  -- is the zone and product untested (for a test)?
  unfoldable pub q13 : Head → Bool
  q13 = for_test (λ t. not (test_in t.zone t.product).taken) passed

  -- does a test list exactly those registrations of its zone and product that no accepted event lists?
  unfoldable pub q14 : Listing → Head → Bool
  q14 l = for_test (λ t. lists_exactly T l (λ i. in_group T t.zone t.product i && not (dispatched (facts_of y) i))) passed

  -- is a close's month the next?
  unfoldable pub q15 : Head → Bool
  q15 = for_close (λ c. eqb c.month (y.closed + 1)) passed

-- is the lent buffer large enough to close?
unfoldable pub q16 : ℕ → Head → Bool
q16 room = for_close (λ c. leb statement_limit room) passed

-- the questions in order, with their numbers, by the time rule for events
unfoldable pub questions : (ℕ → ℕ → Bool) → Year → Record → ℕ → List (ℕ × Bool)
questions rule y r room =
    let h = r.head in
    let l = r.listing in
    (6, q6 y h) ∷ (7, q7 y h) ∷ (8, q8 y h) ∷ (9, q9 y h) ∷ (10, q10 y l h) ∷ (17, q17 y h) ∷ (11, q11 y rule l h) ∷ (20, q20 y h) ∷ (21, q21 y l h)
    ∷ (12, q12 y h) ∷ (13, q13 y h) ∷ (14, q14 y l h) ∷ (15, q15 y h) ∷ (16, q16 room h) ∷ []

-- the number of the first of them that fails, 0 where none does, by the time rule in force
abbrev pub number_in : Year → Head → Listing → ℕ → ℕ
number_in y h l room = first_failed (questions month_begun y (record { head = h; listing = l }) room)

-- n is that number, whatever the room in the buffer
abbrev pub Numbered : Year → Head → Listing → ℕ → Type 0
Numbered y h l n = (room : ℕ) → n ≡ number_in y h l room

-- the number of the first of questions 6 and 8 that fails, 0 where none does, of a record that is put both
abbrev pub open_number : Year → ℕ
open_number y = first_failed ((6, is_open y) ∷ (8, has_parties y.terms) ∷ [])
