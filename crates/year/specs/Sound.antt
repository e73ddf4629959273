-- What holds of every year that the steps make: counts within their arrays, each number within its field's limits.
use Rattle.std.specs.Prelude.{ℕ, ◌*◌, ◌≤◌, ◌<◌, ◌^◌, ◌≡◌, true, false, length, get_or, replicate}
use Rattle.ids.specs.Ids.{at, holds}
use Rattle.ids.specs.Each.{Each}
use Rattle.limits.specs.Limits.{registrations, sellers, lses, areas, zones, products, test_groups, event_limit, close_limit, nominated_limit, obligation_limit, rate_limit, factor_limit}
use Rattle.year.specs.declared.Registration.{Registration}
use Rattle.year.specs.declared.Clearings.{Clearings}
use Rattle.year.specs.declared.Listing.{Listing}
use Rattle.year.specs.declared.Event.{Event}
use Rattle.year.specs.declared.Test.{Test}
use Rattle.year.specs.declared.Retest.{Retest}
use Rattle.year.specs.declared.Terms.{Terms}
use Rattle.year.specs.declared.Amounts.{Amounts}
use Rattle.year.specs.declared.Year.{Year}
use Rattle.year.specs.Year.{no_registration, no_clearings, no_test, no_retest, no_event, listed, zone, product, test_group}

pub record SoundRegistration (r : Registration) : Type 0 where
  pub seller : r.seller < sellers
  pub area : r.area < areas
  pub zone : r.zone < zones
  pub product : r.product < products
  pub committed : r.committed.0 ≤ nominated_limit
  pub rate : r.rate ≤ rate_limit
  pub some : r.known ≡ true → 1 ≤ r.committed.0
  pub blank : r.known ≡ false → r.committed.0 ≡ 0

-- at most four clearings, each of 1 to 100,000 kW and at a price of at most 100,000
pub record SoundClearings (c : Clearings) : Type 0 where
  pub few : c.count ≤ 4
  pub some : c.count ≤ c.kw
  pub kw : c.kw ≤ nominated_limit * c.count
  pub value : c.value ≤ rate_limit * c.kw

abbrev pub AtMost : ℕ → ℕ → Type 0
AtMost most x = x ≤ most

pub record SoundListing (l : Listing) : Type 0 where
  pub listed : length l.listed ≡ registrations
  pub reductions : Each (AtMost nominated_limit) 0 registrations l.reductions
  pub second : Each (AtMost nominated_limit) 0 registrations l.second
  pub deficits : Each (AtMost obligation_limit) 0 sellers l.deficits
  pub unlisted : (i : ℕ) → i < registrations → holds l.listed i ≡ false → at l.reductions i ≡ 0

pub record SoundEvent (e : Event) : Type 0 where
  pub month : e.month ≤ 12
  pub listing : SoundListing e.listing

-- a test at a place lists registrations of its zone and product alone, so that none is in two tests; one that was not taken lists none
pub record SoundTest (T : Terms) (group : ℕ) (t : Test) : Type 0 where
  pub listing : SoundListing t.listing
  pub own : (i : ℕ) → i < registrations → listed t.listing i ≡ true → test_group (zone T i) (product T i) ≡ group
  pub untaken : t.taken ≡ false → (i : ℕ) → i < registrations → listed t.listing i ≡ false

abbrev pub SoundRetest : Retest → Type 0
SoundRetest r = r.reduction ≤ nominated_limit

-- a leap mark, a DR Factor and a Forecast Pool Requirement
pub record Factors (l f r : ℕ) : Type 0 where
  pub leap : l ≤ 1
  pub factor : f ≤ factor_limit
  pub requirement : r ≤ factor_limit

pub record SoundTerms (T : Terms) : Type 0 where
  pub factors : Factors T.leap T.factor T.requirement
  pub registrations : Each SoundRegistration no_registration registrations T.registrations
  pub obligations : Each (AtMost obligation_limit) 0 lses T.obligations

abbrev pub Fits42 : ℕ → Type 0
Fits42 x = x < 2 ^ 41

-- each amount is one that 42 bits of two's complement hold, and so the difference of any two
pub record SoundAmounts (a : Amounts) : Type 0 where
  pub compliance : Each Fits42 0 sellers a.compliance
  pub test : Each Fits42 0 sellers a.test
  pub credit : Each Fits42 0 sellers a.credit
  pub lse : Each Fits42 0 lses a.lse

pub record Sound (y : Year) : Type 0 where
  pub closed : y.closed ≤ close_limit
  pub accepted : y.accepted ≤ event_limit
  pub terms : SoundTerms y.terms
  pub clearings : Each SoundClearings no_clearings registrations y.clearings
  pub events : Each SoundEvent no_event event_limit y.events
  pub groups : length y.tests ≡ test_groups
  pub tests : (k : ℕ) → k < test_groups → SoundTest y.terms k (get_or y.tests k no_test)
  pub retests : Each SoundRetest no_retest registrations y.retests
  pub billed : SoundAmounts y.billed
  pub fresh : y.started ≡ false → (y.accepted ≡ 0) × (y.closed ≡ 0) × (y.tests ≡ replicate test_groups no_test) × (y.retests ≡ replicate registrations no_retest)
