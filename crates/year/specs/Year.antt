-- A new year, and what the rules read of a year.
use Rattle.std.specs.Prelude.{ℕ, ◌+◌, ◌*◌, List, Bool, false, get_or, length, take, replicate}
use Rattle.ids.specs.Ids.{at}
use Rattle.limits.specs.Limits.{registrations, sellers, lses, products, test_groups, event_limit}
use Rattle.year.specs.declared.Registration.{Registration}
use Rattle.year.specs.declared.Clearings.{Clearings}
use Rattle.year.specs.declared.Listing.{Listing}
use Rattle.year.specs.declared.Event.{Event}
use Rattle.year.specs.declared.Test.{Test}
use Rattle.year.specs.declared.Retest.{Retest}
use Rattle.year.specs.declared.Terms.{Terms}
use Rattle.year.specs.declared.Amounts.{Amounts}
use Rattle.year.specs.declared.Year.{Year}

abbrev pub no_registration : Registration
no_registration =
    record { known = false; seller = 0; area = 0; zone = 0; product = 0; committed = record { 0 = 0 }; rate = 0 }

abbrev pub no_clearings : Clearings
no_clearings = record { count = 0; value = 0; kw = 0 }

abbrev pub no_listing : Listing
no_listing = record { listed = replicate registrations false; reductions = replicate registrations 0; second = replicate registrations 0; deficits = replicate sellers 0 }

abbrev pub no_event : Event
no_event = record { area = 0; month = 0; period = 0; dual = false; listing = no_listing }

abbrev pub no_test : Test
no_test = record { taken = false; month = 0; listing = no_listing }

abbrev pub no_retest : Retest
no_retest = record { taken = false; reduction = 0 }

abbrev pub no_terms : Terms
no_terms =
    record { leap = 0; factor = 0; requirement = 0; registrations = replicate registrations no_registration; obligations = replicate lses 0 }

abbrev pub no_amounts : Amounts
no_amounts = record { compliance = replicate sellers 0; test = replicate sellers 0; credit = replicate sellers 0; lse = replicate lses 0 }

-- no year yet
abbrev pub new_year : Year
new_year =
    record { opened = false; started = false; closed = 0; terms = no_terms; clearings = replicate registrations no_clearings; events = replicate event_limit no_event; accepted = 0; tests = replicate test_groups no_test; retests = replicate registrations no_retest; billed = no_amounts }

-- the accepted events, in order of acceptance
abbrev pub accepted_events : Year → List Event
accepted_events y = take y.accepted y.events

-- event ev in order of acceptance, and the test of a group
abbrev pub event_at : Year → ℕ → Event
event_at y ev = get_or y.events ev no_event

abbrev pub test_at : Year → ℕ → Test
test_at y p = get_or y.tests p no_test

-- what registration i's clearings come to
abbrev pub clearings_of : Year → ℕ → Clearings
clearings_of y i = get_or y.clearings i no_clearings

-- registration i's retest
abbrev pub retest_of : Year → ℕ → Retest
retest_of y i = get_or y.retests i no_retest

-- is registration i listed, with which reduction, and with which second one, 0 where it has none; the deficit of seller s, 0 where it is absent
unfoldable pub listed : Listing → ℕ → Bool
listed l i = get_or l.listed i false

unfoldable pub reduction : Listing → ℕ → ℕ
reduction l i = at l.reductions i

unfoldable pub second : Listing → ℕ → ℕ
second l i = at l.second i

unfoldable pub deficit : Listing → ℕ → ℕ
deficit l s = at l.deficits s

-- of registration i
module _ (T : Terms) where
  abbrev pub registration : ℕ → Registration
  registration i = get_or T.registrations i no_registration

  unfoldable pub known : ℕ → Bool
  known i = (registration i).known

  unfoldable pub seller : ℕ → ℕ
  seller i = (registration i).seller

  unfoldable pub area : ℕ → ℕ
  area i = (registration i).area

  unfoldable pub zone : ℕ → ℕ
  zone i = (registration i).zone

  unfoldable pub product : ℕ → ℕ
  product i = (registration i).product

  unfoldable pub committed : ℕ → ℕ
  committed i = (registration i).committed.0

  unfoldable pub field_rate : ℕ → ℕ
  field_rate i = (registration i).rate

  -- the obligation of LSE j, 0 where it is not known
  unfoldable pub obligation : ℕ → ℕ
  obligation j = at T.obligations j

  -- the ids of registrations and of LSEs are below these
  abbrev pub size : ℕ
  size = length T.registrations

  abbrev pub lse_count : ℕ
  lse_count = length T.obligations

-- the group of a zone and product
abbrev pub test_group : ℕ → ℕ → ℕ
test_group z p = products * z + p
