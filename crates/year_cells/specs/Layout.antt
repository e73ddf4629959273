-- Where the year stands in its cells: single cells, then tables, one row an element. The entries of all tests are one table by registration, and those of all retests another.
use Rattle.std.specs.Prelude.{ℕ, ◌+◌, ◌*◌, ◌≡◌, Bool, not, ◌&&◌, cond, List, eqb, length, replicate}
use Rattle.ids.specs.Ids.{at, tabulate}
use Rattle.limits.specs.Limits.{registrations, sellers, lses, test_groups, event_limit}
use Rattle.year_cells.specs.Places.{registration_width, clearing_width, reductions_in, deficits_in, second_in, event_listing_in, event_width, test_deficits_in, test_width, closed_place, started_place, accepted_place, opened_place, leap_place, factor_place, requirement_place, registrations_place, obligations_place, events_place, tests_place, test_entries_place, billed_place, billed_test_place, billed_credit_place, billed_lse_place, clearings_place, retest_entries_place, cell_count}
use Rattle.year.specs.declared.Registration.{Registration}
use Rattle.year.specs.declared.Clearings.{Clearings}
use Rattle.year.specs.declared.Listing.{Listing}
use Rattle.year.specs.declared.Event.{Event}
use Rattle.year.specs.declared.Test.{Test}
use Rattle.year.specs.declared.Retest.{Retest}
use Rattle.year.specs.declared.Terms.{Terms}
use Rattle.year.specs.declared.Amounts.{Amounts}
use Rattle.year.specs.declared.Year.{Year}
use Rattle.year.specs.Year.{zone, product, test_group}
use Rattle.year.specs.Sound.{Sound}
use Rattle.year_cells.specs.Rows.{from, rows}

abbrev pub flag : ℕ → Bool
flag x = not (eqb x 0)

-- a row of each
abbrev pub registration_at : (ℕ → ℕ) → Registration
registration_at g =
    record { known = flag (g 0); seller = g 1; area = g 2; zone = g 3; product = g 4; committed = record { 0 = g 5 }; rate = g 6 }

abbrev pub clearings_at : (ℕ → ℕ) → Clearings
clearings_at g = record { count = g 0; value = g 1; kw = g 2 }

abbrev pub listing_at : (ℕ → ℕ) → Listing
listing_at g =
    record { listed = tabulate registrations (λ i. flag (g i)); reductions = tabulate registrations (λ i. g (reductions_in + i)); second = tabulate registrations (λ i. g (second_in + i)); deficits = tabulate sellers (λ j. g (deficits_in + j)) }

abbrev pub event_at : (ℕ → ℕ) → Event
event_at g = record { area = g 0; month = g 1; period = g 2; dual = flag (g 3); listing = listing_at (λ k. g (event_listing_in + k)) }

-- the terms
unfoldable pub cell_registrations : List ℕ → List Registration
cell_registrations c = rows registration_at registration_width registrations registrations_place c

unfoldable pub cell_obligations : List ℕ → List ℕ
cell_obligations c = tabulate lses (from obligations_place c)

abbrev pub cell_terms : List ℕ → Terms
cell_terms c =
    record { leap = at c leap_place; factor = at c factor_place; requirement = at c requirement_place; registrations = cell_registrations c; obligations = cell_obligations c }

unfoldable pub cell_events : List ℕ → List Event
cell_events c = rows event_at event_width event_limit events_place c

-- registration i's group
unfoldable pub group_in : List ℕ → ℕ → ℕ
group_in c i = test_group (zone (cell_terms c) i) (product (cell_terms c) i)

-- the test of group k: its row, and of the entries of all tests those whose registrations have this group
module _ (group : ℕ → ℕ) (entries : ℕ → ℕ) (k : ℕ) where
  abbrev pub entry_at : ℕ → Bool
  entry_at i = flag (entries i) && eqb (group i) k

  abbrev pub test_at : (ℕ → ℕ) → Test
  test_at g =
      record { taken = flag (g 0); month = g 1; listing = record { listed = tabulate registrations entry_at; reductions = tabulate registrations (λ i. cond (entry_at i) (entries (reductions_in + i)) 0); second = replicate registrations 0; deficits = tabulate sellers (λ j. g (test_deficits_in + j)) } }

unfoldable pub cell_tests : List ℕ → List Test
cell_tests c = tabulate test_groups (λ k. test_at (group_in c) (from test_entries_place c) k (from (tests_place + test_width * k) c))

unfoldable pub cell_billed : List ℕ → Amounts
cell_billed c =
    record { compliance = tabulate sellers (from billed_place c); test = tabulate sellers (from billed_test_place c); credit = tabulate sellers (from billed_credit_place c); lse = tabulate lses (from billed_lse_place c) }

unfoldable pub cell_clearings : List ℕ → List Clearings
cell_clearings c = rows clearings_at clearing_width registrations clearings_place c

-- the entries of all retests: marks, then reductions
abbrev pub retest_at : (ℕ → ℕ) → ℕ → Retest
retest_at g i = record { taken = flag (g i); reduction = g (reductions_in + i) }

unfoldable pub cell_retests : List ℕ → List Retest
cell_retests c = tabulate registrations (retest_at (from retest_entries_place c))

-- the year in the cells
abbrev pub year_in : List ℕ → Year
year_in c =
    record { opened = flag (at c opened_place); started = flag (at c started_place); closed = at c closed_place; terms = cell_terms c; clearings = cell_clearings c; events = cell_events c; accepted = at c accepted_place; tests = cell_tests c; retests = cell_retests c; billed = cell_billed c }

-- what is asked and kept of the cells: how many there are, and that their year is sound
pub record ValidCells (c : List ℕ) : Type 0 where
  pub long : length c ≡ cell_count
  pub sound : Sound (year_in c)
