-- What a look at the year's cells returns: the facts of the rules.
use Rattle.std.specs.Prelude.{ℕ, ◌+◌, ◌*◌, ◌<◌, ◌≡◌, Result, Ok, Err, cond, List}
use native.Mathlib.Omega.{arith}
use Rattle.ids.specs.Ids.{at}
use Rattle.ids.specs.Tables.{get_or-tabulate}
use Rattle.limits.specs.Limits.{registrations, sellers, event_limit}
use Rattle.year_cells.specs.Places.{reductions_in, deficits_in, second_in, event_listing_in, event_reductions_in, event_deficits_in, event_second_in, event_width, events_place}
use Rattle.year.specs.Year.{no_event, reduction, second, deficit}
use Rattle.year.specs.Year as year
use Rattle.year_cells.specs.Layout.{flag, year_in}
use Rattle.year_cells.specs.Regions.{event-in}
use Rattle.owed.specs.Facts.{Facts, facts_of}
use Rattle.settle_facts.specs.declared.EventEntry.{EventEntry}

-- the facts in a year's cells
abbrev pub facts : List ℕ → Facts
facts c = facts_of (year_in c)

-- an event's entry as the rules have it; Err where the event does not list the registration
abbrev pub entry : Facts → ℕ → ℕ → EventEntry
entry F ev i = record { reduction = record { 0 = year.reduction (F.event ev).listing i }; second = record { 0 = year.second (F.event ev).listing i } }

abbrev pub look_at : Facts → ℕ → ℕ → Result EventEntry EventEntry
look_at F ev i = cond (year.listed (F.event ev).listing i) (Ok (entry F ev i)) (Err (entry F ev i))

-- where an event's numbers stand
module _ (c : List ℕ) {ev : ℕ} (l : ev < event_limit) where
  pub month-in : ((facts c).event ev).month ≡ at c (events_place + event_width * ev + 1)
  month-in = rw (event-in c no_event l)

  pub period-in : ((facts c).event ev).period ≡ at c (events_place + event_width * ev + 2)
  period-in = rw (event-in c no_event l)

  pub dual-in : ((facts c).event ev).dual ≡ flag (at c (events_place + event_width * ev + 3))
  dual-in = rw (event-in c no_event l)

  pub reduction-in : {i : ℕ} → i < registrations → year.reduction ((facts c).event ev).listing i ≡ at c (events_place + event_width * ev + (event_reductions_in + i))
  unfolding reduction
  reduction-in {i} m =
      let z : events_place + event_width * ev + (event_listing_in + (reductions_in + i)) ≡ events_place + event_width * ev + (event_reductions_in + i) = omega arith in
      rw (event-in c no_event l, ← z) (get_or-tabulate (λ k. at c (events_place + event_width * ev + (event_listing_in + (reductions_in + k)))) registrations i 0 m)

  pub second-in : {i : ℕ} → i < registrations → year.second ((facts c).event ev).listing i ≡ at c (events_place + event_width * ev + (event_second_in + i))
  unfolding second
  second-in {i} m =
      let z : events_place + event_width * ev + (event_listing_in + (second_in + i)) ≡ events_place + event_width * ev + (event_second_in + i) = omega arith in
      rw (event-in c no_event l, ← z) (get_or-tabulate (λ k. at c (events_place + event_width * ev + (event_listing_in + (second_in + k)))) registrations i 0 m)

  pub deficit-in : {s : ℕ} → s < sellers → year.deficit ((facts c).event ev).listing s ≡ at c (events_place + event_width * ev + (event_deficits_in + s))
  unfolding deficit
  deficit-in {s} m =
      let z : events_place + event_width * ev + (event_listing_in + (deficits_in + s)) ≡ events_place + event_width * ev + (event_deficits_in + s) = omega arith in
      rw (event-in c no_event l, ← z) (get_or-tabulate (λ k. at c (events_place + event_width * ev + (event_listing_in + (deficits_in + k)))) sellers s 0 m)

pub ruleset event_cells = (month-in, period-in, dual-in, reduction-in, second-in, deficit-in)
