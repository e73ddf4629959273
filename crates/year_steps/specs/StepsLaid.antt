-- The year in cells into which the rows of a step were laid: one fact a part, kept or laid anew.
use Rattle.std.specs.Prelude.{ℕ, ◌+◌, ◌-◌, ◌*◌, ◌≤◌, ◌<◌, ◌≡◌, refl, Bool, true, false, List, [], ◌∷◌, ◌++◌, length}
use Rattle.std.proofs.Common.{arith, lit<, lit≤, length-append, get_or-append-add}
use mir.Val.{bool_byte}
use Rattle.ids.specs.Ids.{at}
use Rattle.limits.specs.Limits.{registrations, sellers, event_limit}
use Rattle.year_cells.specs.Places.{registration_width, clearing_width, listing_width, event_listing_in, event_width, entries_width, closed_place, started_place, accepted_place, opened_place, leap_place, registrations_place, events_place, tests_place, billed_place, billed_test_place, billed_credit_place, billed_lse_place, clearings_place, retest_entries_place, cell_count}
use Rattle.year.specs.declared.Amounts.{Amounts}
use Rattle.year.specs.declared.Event.{Event}
use Rattle.year.specs.declared.Year.{Year}
use Rattle.year.specs.Steps.{with_event, with_close}
use Rattle.year.specs.Sound.{SoundAmounts}
use Rattle.year_cells.specs.Rows.{Laid, laid_on, Same, same-on, same_in, same-before, same-behind, rows-laid, numbers-kept, numbers-anew}
use Rattle.year_cells.specs.Layout.{flag, listing_at, event_at, cell_events, cell_billed, year_in}
use Rattle.year_cells.specs.Regions.{listing-view, event-view, registrations-kept, terms-kept, events-kept, tests-kept, billed-kept, clearings-kept, retests-kept}
use Rattle.record_heads.specs.declared.EventHead.{EventHead}
use Rattle.record_heads.specs.Events.{event_of}

-- the event of a head and of the row of its listing, and the year in the cells after it
abbrev pub event_by : EventHead → List ℕ → Event
event_by e l = event_of e (listing_at (at l))

abbrev pub after_event : List ℕ → EventHead → List ℕ → Year
after_event c e l = with_event (year_in c) (event_by e l)

-- the row of an event's head, with a mark for its bool, and of the whole event
abbrev pub head_row : EventHead → List ℕ
head_row e = e.area ∷ e.month ∷ e.period ∷ bool_byte e.dual ∷ []

marked : (b : Bool) → flag (bool_byte b) ≡ b
marked true = refl
marked false = refl

event-row : (e : EventHead) (l : List ℕ) → event_at (at (head_row e ++ l)) ≡ event_by e l
event-row e l =
    cc (marked e.dual, listing-view (λ k. at (head_row e ++ l) (event_listing_in + k)) (at l) (λ k m. get_or-append-add (head_row e) l k 0))

-- an event is laid by three rows: its head, its listing, and the marks
pub call-laid : {a b c d l : List ℕ} (n : ℕ) (event : EventHead) → n ≡ at a accepted_place → n < event_limit → length l ≡ listing_width
    → Laid (events_place + event_width * n) (head_row event) a b → Laid (events_place + event_width * n + event_listing_in) l b c → Laid started_place (1 ∷ (n + 1) ∷ []) c d
    → year_in d ≡ after_event a event l
unfolding cell_events
call-laid {a} {b} {c} {d} {l} n event q m e g h i =
    let row : Laid (events_place + event_width * n) (head_row event ++ l) a c = laid_on g h in
    let long : length (head_row event ++ l) ≡ event_width = omega (arith, length-append (head_row event) l) in
    let marks = same-before row 0 registrations_place (omega arith) in
    let terms = same-on (same-before row opened_place (events_place - opened_place) (omega arith)) (same-behind i opened_place (events_place - opened_place) (lit≤ tt)) in
    let behind = same-on (same-behind row tests_place (cell_count - tests_place) (omega arith)) (same-behind i tests_place (cell_count - tests_place) (lit≤ tt)) in
    let kept = terms-kept (same_in leap_place (events_place - leap_place) (lit≤ tt) (lit≤ tt) terms) in
    cc (
      q,
      marks.cell closed_place (lit< tt),
      i.outside 0 (λ x y. omega arith),
      i.inside 0 (lit< tt),
      i.inside 1 (lit< tt),
      terms.cell 0 (lit< tt),
      kept,
      clearings-kept (same_in clearings_place (clearing_width * registrations) (lit≤ tt) (lit≤ tt) behind),
      events-kept (same-behind i events_place (event_width * event_limit) (lit≤ tt)),
      rows-laid event-view event_limit events_place n m long row,
      event-row event l,
      tests-kept (registrations-kept (same_in registrations_place (registration_width * registrations) (lit≤ tt) (lit≤ tt) terms)) (same_in tests_place (billed_place - tests_place) (lit≤ tt) (lit≤ tt) behind),
      retests-kept (same_in retest_entries_place entries_width (lit≤ tt) (lit≤ tt) behind),
      billed-kept (same_in billed_place (clearings_place - billed_place) (lit≤ tt) (lit≤ tt) behind),
    )

-- four rows of amounts
billed-laid : {b c d e f : List ℕ} (x : Amounts) → SoundAmounts x → Laid billed_place x.compliance b c → Laid billed_test_place x.test c d → Laid billed_credit_place x.credit d e → Laid billed_lse_place x.lse e f → cell_billed f ≡ x
unfolding cell_billed
billed-laid {f = f} x s h i j k =
    let parts : cell_billed f ≡ record { compliance = x.compliance; test = x.test; credit = x.credit; lse = x.lse } = cc (
      numbers-anew x.compliance s.compliance.long h,
      numbers-kept sellers billed_place (same-on (same-on (same-before i billed_place sellers (lit≤ tt)) (same-before j billed_place sellers (lit≤ tt))) (same-before k billed_place sellers (lit≤ tt))),
      numbers-anew x.test s.test.long i,
      numbers-kept sellers billed_test_place (same-on (same-before j billed_test_place sellers (lit≤ tt)) (same-before k billed_test_place sellers (lit≤ tt))),
      numbers-anew x.credit s.credit.long j,
      numbers-kept sellers billed_credit_place (same-before k billed_credit_place sellers (lit≤ tt)),
      numbers-anew x.lse s.lse.long k,
    ) in
    parts

-- a close is laid by five rows: the marks, and the amounts
pub close-laid : {a b c d e f : List ℕ} {z : ℕ} (x : Amounts) → SoundAmounts x → z ≡ at a closed_place → Laid closed_place ((z + 1) ∷ 1 ∷ []) a b
    → Laid billed_place x.compliance b c → Laid billed_test_place x.test c d → Laid billed_credit_place x.credit d e → Laid billed_lse_place x.lse e f → year_in f ≡ with_close (year_in a) x
close-laid {a = a} {b = b} {f = f} x s q g h i j k =
    let before : (q w : ℕ) → q + w ≤ billed_place → Same q w b f = λ q w m. same-on (same-on (same-before h q w m) (same-before i q w (omega arith))) (same-on (same-before j q w (omega arith)) (same-before k q w (omega arith))) in
    let marks = before 0 2 (lit≤ tt) in
    let kept = same-on (same-behind g accepted_place (billed_place - accepted_place) (lit≤ tt)) (before accepted_place (billed_place - accepted_place) (lit≤ tt)) in
    let behind : Same clearings_place (cell_count - clearings_place) a f = same-on (same-behind g clearings_place (cell_count - clearings_place) (lit≤ tt)) (same-on (same-on (same-behind h clearings_place (cell_count - clearings_place) (omega (arith, s.compliance.long))) (same-behind i clearings_place (cell_count - clearings_place) (omega (arith, s.test.long)))) (same-on (same-behind j clearings_place (cell_count - clearings_place) (omega (arith, s.credit.long))) (same-behind k clearings_place (cell_count - clearings_place) (omega (arith, s.lse.long))))) in
    cc (
      q,
      marks.cell closed_place (lit< tt),
      marks.cell started_place (lit< tt),
      g.inside 0 (lit< tt),
      g.inside 1 (lit< tt),
      kept.cell 0 (lit< tt),
      kept.cell 1 (lit< tt),
      terms-kept (same_in leap_place (events_place - leap_place) (lit≤ tt) (lit≤ tt) kept),
      clearings-kept (same_in clearings_place (clearing_width * registrations) (lit≤ tt) (lit≤ tt) behind),
      events-kept (same_in events_place (event_width * event_limit) (lit≤ tt) (lit≤ tt) kept),
      tests-kept (registrations-kept (same_in registrations_place (registration_width * registrations) (lit≤ tt) (lit≤ tt) kept)) (same_in tests_place (billed_place - tests_place) (lit≤ tt) (lit≤ tt) kept),
      retests-kept (same_in retest_entries_place entries_width (lit≤ tt) (lit≤ tt) behind),
      billed-laid x s h i j k,
    )
