-- The year in cells into which the rows of a step were laid: one fact a part, kept or laid anew.
use Rattle.std.specs.Prelude.{ℕ, ◌+◌, ◌-◌, ◌*◌, ◌<◌, ◌≡◌, true, false, List, [], ◌∷◌}
use Rattle.std.proofs.Math.Path.{refl}
use Rattle.std.proofs.Common.{arith, lit<, lit≤}
use Rattle.ids.specs.Ids.{at}
use Rattle.limits.specs.Limits.{registrations, lses, event_limit}
use Rattle.year_cells.specs.Places.{registration_width, clearing_width, event_width, entries_width, closed_place, started_place, accepted_place, opened_place, leap_place, factor_place, requirement_place, registrations_place, obligations_place, events_place, tests_place, billed_place, clearings_place, retest_entries_place}
use Rattle.year.specs.declared.Registration.{Registration}
use Rattle.year.specs.Year.{clearings_of}
use Rattle.year.specs.Steps.{with_opening, with_registration, with_lse, with_clearing}
use Rattle.year.specs.Sound.{Sound}
use Rattle.year_cells.specs.Rows.{Laid, same-before, same-behind, rows-laid, cells-laid}
use Rattle.year_cells.specs.Layout.{registration_at, cell_registrations, cell_obligations, cell_clearings, year_in}
use Rattle.year_cells.specs.Regions.{registration-view, clearings-view, registrations-kept, obligations-kept, terms-kept, events-kept, tests-kept, billed-kept, clearings-kept, retests-kept}
use Rattle.year_steps.specs.Unmarked.{unmarked, tests-unmarked}

-- a known registration is the one that its row has
registration-row : (r : Registration) → r.known ≡ true → registration_at (at (1 ∷ r.seller ∷ r.area ∷ r.zone ∷ r.product ∷ r.committed.0 ∷ r.rate ∷ [])) ≡ r
registration-row r e = rw (← e)

module _ {c d : List ℕ} where
  pub opening-laid : {leap factor requirement : ℕ} → Laid opened_place (1 ∷ leap ∷ factor ∷ requirement ∷ []) c d → year_in d ≡ with_opening (year_in c) leap factor requirement
  opening-laid h =
      let marks = same-before h 0 opened_place (lit≤ tt) in
      let same = registrations-kept (same-behind h registrations_place (registration_width * registrations) (lit≤ tt)) in
      cc (
        marks.cell closed_place (lit< tt),
        marks.cell started_place (lit< tt),
        marks.cell accepted_place (lit< tt),
        h.inside 0 (lit< tt),
        h.inside 1 (lit< tt),
        h.inside 2 (lit< tt),
        h.inside 3 (lit< tt),
        same,
        obligations-kept (same-behind h obligations_place lses (lit≤ tt)),
        clearings-kept (same-behind h clearings_place (clearing_width * registrations) (lit≤ tt)),
        events-kept (same-behind h events_place (event_width * event_limit) (lit≤ tt)),
        tests-kept same (same-behind h tests_place (billed_place - tests_place) (lit≤ tt)),
        retests-kept (same-behind h retest_entries_place entries_width (lit≤ tt)),
        billed-kept (same-behind h billed_place (clearings_place - billed_place) (lit≤ tt)),
      )

  -- before any test, since the group of a listed registration is never to change
  pub registration-laid : Sound (year_in c) → (year_in c).started ≡ false → (id : ℕ) (r : Registration) → id < registrations → r.known ≡ true
      → Laid (registrations_place + registration_width * id) (1 ∷ r.seller ∷ r.area ∷ r.zone ∷ r.product ∷ r.committed.0 ∷ r.rate ∷ []) c d → year_in d ≡ with_registration (year_in c) id r
  unfolding cell_registrations
  registration-laid s e id r l k h =
      let marks = same-before h 0 registrations_place (omega arith) in
      cc (
        marks.cell closed_place (lit< tt),
        marks.cell started_place (lit< tt),
        marks.cell accepted_place (lit< tt),
        marks.cell opened_place (lit< tt),
        marks.cell leap_place (lit< tt),
        marks.cell factor_place (lit< tt),
        marks.cell requirement_place (lit< tt),
        rows-laid registration-view registrations registrations_place id l refl h,
        registration-row r k,
        obligations-kept (same-behind h obligations_place lses (omega arith)),
        clearings-kept (same-behind h clearings_place (clearing_width * registrations) (omega arith)),
        events-kept (same-behind h events_place (event_width * event_limit) (omega arith)),
        tests-unmarked (unmarked c s (s.fresh e).2) (same-behind h tests_place (billed_place - tests_place) (omega arith)),
        retests-kept (same-behind h retest_entries_place entries_width (omega arith)),
        billed-kept (same-behind h billed_place (clearings_place - billed_place) (omega arith)),
      )

  pub lse-laid : (id : ℕ) {kw : ℕ} → id < lses → Laid (obligations_place + id) (kw ∷ []) c d → year_in d ≡ with_lse (year_in c) id kw
  unfolding cell_obligations
  lse-laid id l h =
      let marks = same-before h 0 registrations_place (omega arith) in
      let same = registrations-kept (same-before h registrations_place (registration_width * registrations) (omega arith)) in
      cc (
        marks.cell closed_place (lit< tt),
        marks.cell started_place (lit< tt),
        marks.cell accepted_place (lit< tt),
        marks.cell opened_place (lit< tt),
        marks.cell leap_place (lit< tt),
        marks.cell factor_place (lit< tt),
        marks.cell requirement_place (lit< tt),
        same,
        cells-laid (λ x. x) lses obligations_place id l h,
        clearings-kept (same-behind h clearings_place (clearing_width * registrations) (omega arith)),
        events-kept (same-behind h events_place (event_width * event_limit) (omega arith)),
        tests-kept same (same-behind h tests_place (billed_place - tests_place) (omega arith)),
        retests-kept (same-behind h retest_entries_place entries_width (omega arith)),
        billed-kept (same-behind h billed_place (clearings_place - billed_place) (omega arith)),
      )

  pub clearing-laid : (id price kw : ℕ) → id < registrations → let old = clearings_of (year_in c) id in
      Laid (clearings_place + clearing_width * id) ((old.count + 1) ∷ (old.value + price * kw) ∷ (old.kw + kw) ∷ []) c d → year_in d ≡ with_clearing (year_in c) id price kw
  unfolding cell_clearings
  clearing-laid id price kw l h =
      let marks = same-before h 0 registrations_place (omega arith) in
      let same = registrations-kept (same-before h registrations_place (registration_width * registrations) (omega arith)) in
      cc (
        marks.cell closed_place (lit< tt),
        marks.cell started_place (lit< tt),
        marks.cell accepted_place (lit< tt),
        marks.cell opened_place (lit< tt),
        terms-kept (same-before h leap_place (events_place - leap_place) (omega arith)),
        rows-laid clearings-view registrations clearings_place id l refl h,
        events-kept (same-before h events_place (event_width * event_limit) (omega arith)),
        tests-kept same (same-before h tests_place (billed_place - tests_place) (omega arith)),
        retests-kept (same-behind h retest_entries_place entries_width (omega arith)),
        billed-kept (same-before h billed_place (clearings_place - billed_place) (omega arith)),
      )
