-- What is owed (document 01, with document 02's C-11, C-12, C-15 and C-17), in the document's order, over facts. Amounts are to date at month k; i is a registration, s a seller, a an area, j an LSE, ev an event, p the group of a test, a zone and product.
-- a - b is 0 where b is the larger, so "at least 0" is written as `-`; a / 0 is 0, so nothing is allotted where all weights are 0.
-- A sum or an allotment over some registrations runs over all ids, in rising order, with 0 for the others.
use Rattle.std.specs.Prelude.{ℕ, zero, suc, ◌+◌, ◌-◌, ◌*◌, ◌/◌, min, max, Bool, not, ◌&&◌, ◌||◌, cond, leb, ltb, eqb}
use Rattle.ids.specs.Ids.{sum_to, count_to, any_to, tabulate, only, keyed}
use Rattle.units.specs.Units.{convert}
use Rattle.limits.specs.Limits.{registrations, sellers, lses, test_groups}
use Rattle.calendar.specs.Calendar.{limited, off_peak, days, due}
use Rattle.allotment.specs.Allot.{share}
use Rattle.year.specs.declared.Listing.{Listing}
use Rattle.year.specs.declared.Terms.{Terms}
use Rattle.year.specs.declared.Amounts.{Amounts}
use Rattle.year.specs.Year.{listed, reduction, second, deficit, known, area, product, committed, field_rate, obligation}
use Rattle.owed.specs.Facts.{Facts}

-- a period of the daily charge's first rule
abbrev pub one_or_three : ℕ → Bool
one_or_three period = eqb period 1 || eqb period 3

-- step 3: the daily charge before the cap, of u unforced kilowatts at rate q with a dispatch count of n, in thousandths of a cent
unfoldable pub before_cap : ℕ → ℕ → ℕ → ℕ → ℕ
before_cap period n u q = u * q / cond (one_or_three period) (max n 2) 52

-- a test's rate, of B: a fifth more, and at least 2,000 more
unfoldable pub raised : ℕ → ℕ
raised b = b + max (b / 5) 2000

module _ (F : Facts) where
  -- the terms; what event ev lists, and the test of group p
  abbrev T : Terms
  T = F.terms

  abbrev in_event : ℕ → Listing
  in_event ev = (F.event ev).listing

  abbrev in_test : ℕ → Listing
  in_test p = (F.test p).listing

  -- D(k)
  abbrev pub D : ℕ → ℕ
  D k = days T.leap k

  -- conversion to unforced kilowatts
  unfoldable pub unforced : ℕ → ℕ
  unforced a = convert T.factor T.requirement a

  -- registration i's own rate: of its clearings, where it has any, the average by kW, rounded down; else its field; 0 where it is not known
  unfoldable pub own : ℕ → ℕ
  own = only (known T) (λ i. cond (ltb 0 (F.clearings i).count) ((F.clearings i).value / (F.clearings i).kw) (field_rate T i))

  -- an area's rate: the average of the own rates above 0 of its registrations, by committed kW, rounded down
  abbrev pub has_own_rate : ℕ → Bool
  has_own_rate i = ltb 0 (own i)

  unfoldable pub of_area : ℕ → (ℕ → ℕ) → ℕ
  of_area a f = sum_to registrations (keyed (area T) f a)

  unfoldable pub area_rate : ℕ → ℕ
  area_rate a = of_area a (only has_own_rate (λ i. committed T i * own i)) / of_area a (only has_own_rate (committed T))

  -- the rate in force: its own; where that is 0, a known registration has its area's
  unfoldable pub rate : ℕ → ℕ
  rate i = cond (known T i && eqb (own i) 0) (area_rate (area T i)) (own i)

  -- what f sums up to over seller s's registrations
  unfoldable pub of_seller : ℕ → (ℕ → ℕ) → ℕ
  of_seller s f = sum_to registrations (keyed F.seller f s)

  -- registration i's share of its seller's amount, by weights
  unfoldable pub share_of : (ℕ → ℕ) → (ℕ → ℕ) → ℕ → ℕ
  share_of weight amount i = share registrations (keyed F.seller weight (F.seller i)) (amount (F.seller i)) i

  -- is registration i listed by an event, and by how many of period 1 or 3 (n)
  unfoldable pub dispatched : ℕ → Bool
  dispatched i = any_to F.events (λ ev. listed (in_event ev) i)

  unfoldable pub dispatch_count : ℕ → ℕ
  dispatch_count i = count_to F.events (λ ev. listed (in_event ev) i && one_or_three (F.event ev).period)

  -- compliance, step 1: a seller's unforced shortfall, of the entries that are picked, with their reductions and the sellers' deficits
  unfoldable pub shortfall_over : (ℕ → Bool) → (ℕ → ℕ) → (ℕ → ℕ) → ℕ → ℕ
  shortfall_over picked reduction deficit s = let net = of_seller s (only picked (committed T)) - of_seller s (only picked reduction) in unforced net - deficit s

  abbrev pub shortfall : ℕ → ℕ → ℕ
  shortfall ev = shortfall_over (listed (in_event ev)) (reduction (in_event ev)) (deficit (in_event ev))

  -- what an entry is short, max(0, c − v), and what it is over, max(0, v − c)
  abbrev pub short_of : (ℕ → Bool) → (ℕ → ℕ) → ℕ → ℕ
  short_of picked reduction = only picked (λ i. committed T i - reduction i)

  abbrev pub over_of : (ℕ → Bool) → (ℕ → ℕ) → ℕ → ℕ
  over_of picked reduction = only picked (λ i. reduction i - committed T i)

  abbrev pub short : ℕ → ℕ → ℕ
  short ev = short_of (listed (in_event ev)) (reduction (in_event ev))

  abbrev pub over : ℕ → ℕ → ℕ
  over ev = over_of (listed (in_event ev)) (reduction (in_event ev))

  -- step 2
  unfoldable pub u : ℕ → ℕ → ℕ
  u ev i = share_of (short ev) (shortfall ev) i

  -- steps 1 and 2 off-peak, of a dual event: of all entries but Limited ones, by their second reductions, the whole deficit taken off here too
  unfoldable pub measured : ℕ → ℕ → Bool
  measured ev i = (F.event ev).dual && (listed (in_event ev) i && not (eqb (product T i) limited))

  abbrev pub off_shortfall : ℕ → ℕ → ℕ
  off_shortfall ev = shortfall_over (measured ev) (second (in_event ev)) (deficit (in_event ev))

  abbrev pub off_short : ℕ → ℕ → ℕ
  off_short ev = short_of (measured ev) (second (in_event ev))

  unfoldable pub off_u : ℕ → ℕ → ℕ
  off_u ev i = share_of (off_short ev) (off_shortfall ev) i

  -- step 3 of an entry: the higher of what u and what the off-peak u comes to, of which the second is 0 where the event is not dual
  unfoldable pub asked : ℕ → ℕ → ℕ
  asked ev i =
      let first = before_cap (F.event ev).period (dispatch_count i) (u ev i) (rate i) in
      let second = before_cap off_peak (dispatch_count i) (off_u ev i) (rate i) in
      max first second

  -- step 4: the cap, and its rest when x of it is spent
  unfoldable pub cap : ℕ → ℕ
  cap i = unforced (committed T i) * rate i

  abbrev pub rest : ℕ → ℕ → ℕ
  rest i x = cap i - x

  -- the daily charge: the lesser of step 3 and the cap's rest
  unfoldable pub daily : ℕ → ℕ → ℕ → ℕ
  daily ev x i = only (listed (in_event ev)) (λ i. min (asked ev i) (rest i x)) i

  -- what the events before ev spent of the cap, due or not
  unfoldable pub spent : ℕ → ℕ → ℕ
  spent zero i = 0
  spent (suc ev) i = spent ev i + daily ev (spent ev i) i

  -- a seller's revenue to date
  unfoldable pub revenue : ℕ → ℕ → ℕ
  revenue k s = of_seller s (only (known T) cap) * D k

  -- step 5: the charge to date in cents
  unfoldable pub charge : ℕ → ℕ → ℕ → ℕ
  charge k ev i = cond (leb (due (product T i) (F.event ev).month) k) (daily ev (spent ev i) i * D k / 1000) 0

  -- excess credit: a seller's excess, and e
  unfoldable pub excess : ℕ → ℕ → ℕ
  excess ev = let l = in_event ev in λ s. of_seller s (only (listed l) (reduction l)) - of_seller s (only (listed l) (committed T))

  unfoldable pub e : ℕ → ℕ → ℕ
  e ev i = share_of (over ev) (excess ev) i

  -- the share of the event's charges to date; the limit, whose bracket is rounded first; and the credit, the lesser of both
  unfoldable pub credit_share : ℕ → ℕ → ℕ → ℕ
  credit_share k ev i = share registrations (e ev) (sum_to registrations (charge k ev)) i

  unfoldable pub credit_limit : ℕ → ℕ → ℕ → ℕ
  credit_limit k ev i = let bracket = e ev i * rate i / 5 in bracket * D k / 1000

  unfoldable pub credit_of : ℕ → ℕ → ℕ → ℕ
  credit_of k ev i = min (credit_share k ev i) (credit_limit k ev i)

  -- test: the entries whose registration no event lists; an entry's reduction, the retested one, if there is one, else the first; the shortfall as in step 1, B, and the charge to date
  abbrev pub stands : ℕ → ℕ → Bool
  stands p i = listed (in_test p) i && not (dispatched i)

  unfoldable pub result : ℕ → ℕ → ℕ
  result p i = cond (F.retest i).taken (F.retest i).reduction (reduction (in_test p) i)

  abbrev pub test_shortfall : ℕ → ℕ → ℕ
  test_shortfall p = shortfall_over (stands p) (result p) (deficit (in_test p))

  unfoldable pub B : ℕ → ℕ → ℕ
  B p s = of_seller s (only (stands p) (λ i. committed T i * rate i)) / of_seller s (only (stands p) (committed T))

  unfoldable pub test_charge : ℕ → ℕ → ℕ → ℕ
  test_charge k p s = test_shortfall p s * raised (B p s) * D k / 1000

  -- to date: a seller's charges and credits over all events and tests, all sellers', and LSE j's
  unfoldable pub compliance : ℕ → ℕ → ℕ
  compliance k s = sum_to F.events (λ ev. of_seller s (charge k ev))

  unfoldable pub test : ℕ → ℕ → ℕ
  test k s = sum_to test_groups (λ p. test_charge k p s)

  unfoldable pub credit : ℕ → ℕ → ℕ
  credit k s = sum_to F.events (λ ev. of_seller s (credit_of k ev))

  unfoldable pub charges : ℕ → ℕ
  charges k = sum_to sellers (λ s. compliance k s + test k s)

  unfoldable pub credits : ℕ → ℕ
  credits k = sum_to sellers (credit k)

  unfoldable pub lse : ℕ → ℕ → ℕ
  lse k j = share lses (obligation T) (charges k - credits k) j

  unfoldable pub amounts : ℕ → Amounts
  amounts k =
      record { compliance = tabulate sellers (compliance k); test = tabulate sellers (test k); credit = tabulate sellers (credit k); lse = tabulate lses (lse k) }
