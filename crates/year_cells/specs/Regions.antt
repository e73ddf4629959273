-- The parts of the year in its cells: each element of a table, what stays where the cells do, and the year where all cells are 0.
use Rattle.std.specs.Prelude.{ℕ, ◌+◌, ◌-◌, ◌*◌, ◌<◌, ◌≡◌, refl, cond, List, length, get_or, replicate}
use Rattle.std.proofs.Common.{◌∙◌, arith, lit<, lit≤}
use Rattle.std.proofs.Math.Bool.{false}
use Rattle.ids.specs.Ids.{at, tabulate}
use Rattle.ids.specs.Tables.{tabulate-same, get_or-tabulate}
use Rattle.limits.specs.Limits.{registrations, sellers, lses, test_groups, event_limit}
use Rattle.year_cells.specs.Places.{registration_width, clearing_width, reductions_in, deficits_in, second_in, listing_width, event_listing_in, event_width, test_deficits_in, test_width, entries_width, closed_place, started_place, accepted_place, opened_place, leap_place, factor_place, requirement_place, registrations_place, obligations_place, events_place, tests_place, test_entries_place, billed_place, billed_test_place, billed_credit_place, billed_lse_place, clearings_place, retest_entries_place}
use Rattle.year.specs.declared.Registration.{Registration}
use Rattle.year.specs.declared.Clearings.{Clearings}
use Rattle.year.specs.declared.Event.{Event}
use Rattle.year.specs.declared.Test.{Test}
use Rattle.year.specs.declared.Retest.{Retest}
use Rattle.year.specs.declared.Year.{Year}
use Rattle.year.specs.Year.{new_year, no_event, no_test, no_retest, listed, reduction, deficit, zone, product}
use Rattle.year.specs.Sound.{Sound}
use Rattle.year_cells.specs.Rows.{Same, same_in, from, View, numbers-kept, same_row, rows-kept, row_at, table_of}
use Rattle.year_cells.specs.Layout.{flag, registration_at, clearings_at, listing_at, event_at, cell_registrations, cell_obligations, cell_terms, cell_events, group_in, entry_at, test_at, cell_tests, cell_billed, cell_clearings, retest_at, cell_retests, year_in, ValidCells}

pub registration-view : View registration_width registration_at
registration-view g h e =
    cc (e 0 (lit< tt), e 1 (lit< tt), e 2 (lit< tt), e 3 (lit< tt), e 4 (lit< tt), e 5 (lit< tt), e 6 (lit< tt))

pub clearings-view : View clearing_width clearings_at
clearings-view g h e = cc (e 0 (lit< tt), e 1 (lit< tt), e 2 (lit< tt))

pub listing-view : View listing_width listing_at
listing-view g h e =
    cc (
      tabulate-same registrations {f = λ i. flag (g i)} {g = λ i. flag (h i)} (λ i l. rw (e i (omega arith))),
      tabulate-same registrations {f = λ i. g (reductions_in + i)} {g = λ i. h (reductions_in + i)} (λ i l. e (reductions_in + i) (omega arith)),
      tabulate-same registrations {f = λ i. g (second_in + i)} {g = λ i. h (second_in + i)} (λ i l. e (second_in + i) (omega arith)),
      tabulate-same sellers {f = λ i. g (deficits_in + i)} {g = λ i. h (deficits_in + i)} (λ i l. e (deficits_in + i) (omega arith)),
    )

-- what a listing's row says
module _ (row : List ℕ) where
  pub row_listed : {i : ℕ} → i < registrations → listed (listing_at (at row)) i ≡ flag (at row i)
  unfolding listed
  row_listed {i} l = get_or-tabulate (λ j. flag (at row j)) registrations i false l

  pub row-reduction : {i : ℕ} → i < registrations → reduction (listing_at (at row)) i ≡ at row (reductions_in + i)
  unfolding reduction
  row-reduction {i} l = get_or-tabulate (λ j. at row (reductions_in + j)) registrations i 0 l

  pub row-deficit : {s : ℕ} → s < sellers → deficit (listing_at (at row)) s ≡ at row (deficits_in + s)
  unfolding deficit
  row-deficit {s} l = get_or-tabulate (λ j. at row (deficits_in + j)) sellers s 0 l

pub event-view : View event_width event_at
event-view g h e =
    cc (e 0 (lit< tt), e 1 (lit< tt), e 2 (lit< tt), e 3 (lit< tt), listing-view (λ k. g (event_listing_in + k)) (λ k. h (event_listing_in + k)) (λ k l. e (event_listing_in + k) (omega arith)))

-- two tests of a group: their rows agree, and what each lists of the entries of all tests
pub test-same : (k : ℕ) (p q g h x y : ℕ → ℕ) → ((j : ℕ) → j < test_width → x j ≡ y j)
    → ((i : ℕ) → i < registrations → (entry_at p g k i ≡ entry_at q h k i) × (cond (entry_at p g k i) (g (reductions_in + i)) 0 ≡ cond (entry_at q h k i) (h (reductions_in + i)) 0))
    → test_at p g k x ≡ test_at q h k y
test-same k p q g h x y row entries =
    cc (
      row 0 (lit< tt),
      row 1 (lit< tt),
      tabulate-same registrations {f = entry_at p g k} {g = entry_at q h k} (λ i l. (entries i l).0),
      tabulate-same registrations {f = λ i. cond (entry_at p g k i) (g (reductions_in + i)) 0} {g = λ i. cond (entry_at q h k i) (h (reductions_in + i)) 0} (λ i l. (entries i l).1),
      tabulate-same sellers {f = λ j. x (test_deficits_in + j)} {g = λ j. y (test_deficits_in + j)} (λ j l. row (test_deficits_in + j) (omega arith)),
    )

-- an element of a table
module _ (c : List ℕ) where
  pub registration-in : {i : ℕ} (d : Registration) → i < registrations → get_or (cell_registrations c) i d ≡ registration_at (from (registrations_place + registration_width * i) c)
  unfolding cell_registrations
  registration-in {i} d l = row_at registration-view registrations registrations_place i c d l

  pub obligation-in : {j : ℕ} → j < lses → at (cell_obligations c) j ≡ at c (obligations_place + j)
  unfolding cell_obligations
  obligation-in {j} l = get_or-tabulate (from obligations_place c) lses j 0 l

  pub event-in : {e : ℕ} (d : Event) → e < event_limit → get_or (cell_events c) e d ≡ event_at (from (events_place + event_width * e) c)
  unfolding cell_events
  event-in {e} d l = row_at event-view event_limit events_place e c d l

  pub listed_in : {e i : ℕ} → e < event_limit → i < registrations → listed (get_or (cell_events c) e no_event).listing i ≡ flag (at c (events_place + event_width * e + (event_listing_in + i)))
  unfolding listed
  listed_in {e} {i} l m = rw (event-in no_event l) (get_or-tabulate (λ k. flag (at c (events_place + event_width * e + (event_listing_in + k)))) registrations i false m)

  pub test_in : {k : ℕ} (d : Test) → k < test_groups → get_or (cell_tests c) k d ≡ test_at (group_in c) (from test_entries_place c) k (from (tests_place + test_width * k) c)
  unfolding cell_tests
  test_in {k} d l = get_or-tabulate (λ k. test_at (group_in c) (from test_entries_place c) k (from (tests_place + test_width * k) c)) test_groups k d l

  pub retest-in : {i : ℕ} (d : Retest) → i < registrations → get_or (cell_retests c) i d ≡ retest_at (from retest_entries_place c) i
  unfolding cell_retests
  retest-in {i} d l = get_or-tabulate (retest_at (from retest_entries_place c)) registrations i d l

  pub clearings-in : {i : ℕ} (d : Clearings) → i < registrations → get_or (cell_clearings c) i d ≡ clearings_at (from (clearings_place + clearing_width * i) c)
  unfolding cell_clearings
  clearings-in {i} d l = row_at clearings-view registrations clearings_place i c d l

-- what stays
pub groups-kept : (c d : List ℕ) → cell_registrations d ≡ cell_registrations c → (i : ℕ) → group_in d i ≡ group_in c i
unfolding group_in zone product
groups-kept c d e i = rw e

module _ {c d : List ℕ} where
  pub registrations-kept : Same registrations_place (registration_width * registrations) c d → cell_registrations d ≡ cell_registrations c
  unfolding cell_registrations
  registrations-kept s = rows-kept registration-view registrations registrations_place s

  pub obligations-kept : Same obligations_place lses c d → cell_obligations d ≡ cell_obligations c
  unfolding cell_obligations
  obligations-kept s = numbers-kept lses obligations_place s

  pub terms-kept : Same leap_place (events_place - leap_place) c d → cell_terms d ≡ cell_terms c
  terms-kept s =
      cc (
        s.cell 0 (lit< tt),
        s.cell 1 (lit< tt),
        s.cell 2 (lit< tt),
        registrations-kept (same_in registrations_place (registration_width * registrations) (lit≤ tt) (lit≤ tt) s),
        obligations-kept (same_in obligations_place lses (lit≤ tt) (lit≤ tt) s),
      )

  pub events-kept : Same events_place (event_width * event_limit) c d → cell_events d ≡ cell_events c
  unfolding cell_events
  events-kept s = rows-kept event-view event_limit events_place s

  pub tests-kept : cell_registrations d ≡ cell_registrations c → Same tests_place (billed_place - tests_place) c d → cell_tests d ≡ cell_tests c
  unfolding cell_tests
  tests-kept e s =
      tabulate-same test_groups
      (λ k l. test-same k (group_in d) (group_in c) (from test_entries_place d) (from test_entries_place c) (from (tests_place + test_width * k) d) (from (tests_place + test_width * k) c)
      (same_row tests_place test_width test_groups k l (same_in tests_place (test_width * test_groups) (lit≤ tt) (lit≤ tt) s)).cell
      (λ i m. let kept = same_in test_entries_place entries_width (lit≤ tt) (lit≤ tt) s in
      rw (groups-kept c d e i, kept.cell i (omega arith), kept.cell (reductions_in + i) (omega arith)) (refl, refl)))

  pub billed-kept : Same billed_place (clearings_place - billed_place) c d → cell_billed d ≡ cell_billed c
  unfolding cell_billed
  billed-kept s =
      cc (
        numbers-kept sellers billed_place (same_in billed_place sellers (lit≤ tt) (lit≤ tt) s),
        numbers-kept sellers billed_test_place (same_in billed_test_place sellers (lit≤ tt) (lit≤ tt) s),
        numbers-kept sellers billed_credit_place (same_in billed_credit_place sellers (lit≤ tt) (lit≤ tt) s),
        numbers-kept lses billed_lse_place (same_in billed_lse_place lses (lit≤ tt) (lit≤ tt) s),
      )

  pub clearings-kept : Same clearings_place (clearing_width * registrations) c d → cell_clearings d ≡ cell_clearings c
  unfolding cell_clearings
  clearings-kept s = rows-kept clearings-view registrations clearings_place s

  pub retests-kept : Same retest_entries_place entries_width c d → cell_retests d ≡ cell_retests c
  unfolding cell_retests
  retests-kept s =
      tabulate-same registrations {f = retest_at (from retest_entries_place d)} {g = retest_at (from retest_entries_place c)} (λ i l. cc (s.cell i (omega arith), s.cell (reductions_in + i) (omega arith)))

-- where all cells are 0 there is a new year
pub new-year : (c : List ℕ) → ((k : ℕ) → at c k ≡ 0) → year_in c ≡ new_year
unfolding cell_registrations cell_obligations cell_events cell_tests cell_billed cell_clearings cell_retests
new-year c z =
    cc (
      z closed_place,
      z started_place,
      z accepted_place,
      z opened_place,
      z leap_place,
      z factor_place,
      z requirement_place,
      table_of {f = λ i. registration_at (from (registrations_place + registration_width * i) c)} registrations (λ i l. registration-view (from (registrations_place + registration_width * i) c) (λ k. 0) (λ k l. z (registrations_place + registration_width * i + k))),
      zeros lses obligations_place,
      table_of {f = λ i. clearings_at (from (clearings_place + clearing_width * i) c)} registrations (λ i l. clearings-view (from (clearings_place + clearing_width * i) c) (λ k. 0) (λ k l. z (clearings_place + clearing_width * i + k))),
      table_of {f = λ i. event_at (from (events_place + event_width * i) c)} event_limit (λ i l. event-view (from (events_place + event_width * i) c) (λ k. 0) (λ k l. z (events_place + event_width * i + k)) ∙ no-event),
      table_of {f = λ k. test_at (group_in c) (from test_entries_place c) k (from (tests_place + test_width * k) c)} test_groups (λ k l. test_none k),
      table_of {f = retest_at (from retest_entries_place c)} {x = no_retest} registrations (λ i l. cc (z (retest_entries_place + i), z (retest_entries_place + (reductions_in + i)))),
      zeros sellers billed_place,
      zeros sellers billed_test_place,
      zeros sellers billed_credit_place,
      zeros lses billed_lse_place,
    )
  where
    zeros : (n q : ℕ) → tabulate n (from q c) ≡ replicate n 0
    zeros n q = table_of {f = from q c} n (λ j l. z (q + j))

    no-event : event_at (λ k. 0) ≡ no_event
    no-event =
        cc
        (table_of {f = λ i. flag 0} registrations (λ i l. refl), table_of {A = ℕ} {f = λ i. 0} registrations (λ i l. refl), table_of {A = ℕ} {f = λ i. 0} sellers (λ i l. refl))

    test_none : (k : ℕ) → test_at (group_in c) (from test_entries_place c) k (from (tests_place + test_width * k) c) ≡ no_test
    test_none k =
        cc (
          z (tests_place + test_width * k + 0),
          z (tests_place + test_width * k + 1),
          table_of {f = entry_at (group_in c) (from test_entries_place c) k} {x = false} registrations (λ i l. rw (z (test_entries_place + i))),
          table_of {A = ℕ} {f = λ i. cond (entry_at (group_in c) (from test_entries_place c) k i) (from test_entries_place c (reductions_in + i)) 0} {x = 0} registrations (λ i l. rw (z (test_entries_place + i))),
          table_of {f = λ j. from (tests_place + test_width * k) c (test_deficits_in + j)} sellers (λ j l. z (tests_place + test_width * k + (test_deficits_in + j))),
        )

-- a step on cells that hold a sound year
pub stepped : {c d : List ℕ} {y : Year} → ValidCells c → length d ≡ length c → year_in d ≡ y → Sound y → (year_in d ≡ y) × ValidCells d
stepped k l e s = (e, record { long = l ∙ k.long; sound = rw e s })
