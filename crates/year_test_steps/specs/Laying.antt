-- The year in cells into which the rows of a test or a retest were laid: one fact a part, kept or laid anew.
use Rattle.std.specs.Prelude.{ℕ, ◌+◌, ◌-◌, ◌*◌, ◌≤◌, ◌<◌, ◌≡◌, refl, Bool, true, false, List, [], ◌∷◌, ◌++◌, ◌≢◌, length, get_or, take, drop}
use Rattle.std.proofs.Common.{◌∙◌, arith, lit<, lit≤, length-append, length-drop, get_or-append-add, get_or-take, get_or-drop, length-take-le}
use Rattle.std.proofs.Math.Bool.{cond}
use Rattle.std.proofs.Math.Decide.{dec_lt}
use Rattle.ids.specs.Ids.{at}
use Rattle.ids.specs.Tables.{tabulate-same}
use Rattle.limits.specs.Limits.{registrations, sellers, test_groups, event_limit}
use Rattle.year_cells.specs.Places.{registration_width, clearing_width, reductions_in, deficits_in, listing_width, event_width, test_deficits_in, test_width, entries_width, started_place, accepted_place, leap_place, registrations_place, events_place, tests_place, test_entries_place, billed_place, clearings_place, retest_entries_place, cell_count}
use Rattle.year.specs.Year.{no_retest, no_test, listed}
use Rattle.year.specs.Steps.{retest_by}
use Rattle.year.specs.Sound.{SoundTest}
use Rattle.year_cells.specs.Rows.{from, Laid, laid_on, Same, same-on, same_in, same-before, same-behind}
use Rattle.year_cells.specs.Layout.{flag, listing_at, cell_terms, cell_tests, retest_at, cell_retests, year_in, ValidCells}
use Rattle.year_cells.specs.Regions.{row_listed, row-reduction, retest-in, registrations-kept, terms-kept, events-kept, groups-kept, tests-kept, billed-kept, clearings-kept, retests-kept}
use Rattle.year_test_steps.specs.Entered.{Entered}
use Rattle.year_test_steps.specs.Tests.{taken_test, after_test, after_retest, untaken-free, Tested, tests-laid}

-- a test is laid by the mark, its head and its deficits, then its entries among those of all tests
module _ {a b c d f : List ℕ} (l : List ℕ) (group : ℕ) {month : ℕ} (p : group < test_groups) (n : length l ≡ listing_width)
    (start : Laid started_place (1 ∷ []) a b) (head : Laid (tests_place + test_width * group) (1 ∷ month ∷ []) b c) (deficits : Laid (tests_place + test_width * group + test_deficits_in) (take sellers (drop deficits_in l)) c d)
    (entries : Entered test_entries_place l d f) where
  row : Laid (tests_place + test_width * group) ((1 ∷ month ∷ []) ++ take sellers (drop deficits_in l)) b d
  row = laid_on head deficits

  test-wide : length ((1 ∷ month ∷ []) ++ take sellers (drop deficits_in l)) ≡ test_width
  test-wide =
      omega (arith, length-append (1 ∷ month ∷ []) (take sellers (drop deficits_in l)), length-take-le sellers (drop deficits_in l) (omega (arith, length-drop deficits_in l)))

  -- cells between the mark and the place's row, and behind this
  between : (q w : ℕ) → accepted_place ≤ q → q + w ≤ tests_place → Same q w a f
  between q w x y =
      same-on (same-on (same-behind start q w x) (same-before row q w (omega arith))) (entries.before q w (omega arith))

  far : (q w : ℕ) → test_entries_place ≤ q → Same q w a d
  far q w x = same-on (same-behind start q w (omega arith)) (same-behind row q w (omega (arith, test-wide)))

  laid : Tested group month l a f
  laid =
      let here = entries.before (tests_place + test_width * group) test_width (omega arith) in
      record {
        taken = here.cell 0 (lit< tt) ∙ row.inside 0 (omega (arith, test-wide));
        month = here.cell 1 (lit< tt) ∙ row.inside 1 (omega (arith, test-wide));
        deficits = λ j m. here.cell (test_deficits_in + j) (omega arith) ∙ row.inside (test_deficits_in + j) (omega (arith, test-wide)) ∙ get_or-append-add (1 ∷ month ∷ []) (take sellers (drop deficits_in l)) j 0 ∙ get_or-take sellers (drop deficits_in l) j 0 m ∙ get_or-drop deficits_in l j 0;
        others = λ k m x. same-on (same-on (same-behind start (tests_place + test_width * k) test_width (omega arith)) (apart k m x (dec_lt k group))) (entries.before (tests_place + test_width * k) test_width (omega arith));
        marks = λ i m. rw (← ((far test_entries_place entries_width (lit≤ tt)).cell i (omega arith))) (entries.marks i m);
        reductions = λ i m. rw (← ((far test_entries_place entries_width (lit≤ tt)).cell (reductions_in + i) (omega arith))) (entries.reductions i m);
      }
    where
      apart : (k : ℕ) → k < test_groups → k ≢ group → Dec (k < group) → Same (tests_place + test_width * k) test_width b d
      apart k m x (yes y) = same-before row (tests_place + test_width * k) test_width (omega arith)
      apart k m x (no y) = same-behind row (tests_place + test_width * k) test_width (omega (arith, test-wide))

  pub test-laid : ValidCells a → (get_or (cell_tests a) group no_test).taken ≡ false → SoundTest (cell_terms a) group (taken_test month (listing_at (at l)))
      → year_in f ≡ after_test a group month l
  test-laid k x s =
      let kept = between accepted_place (tests_place - accepted_place) (lit≤ tt) (lit≤ tt) in
      let same = registrations-kept (same_in registrations_place (registration_width * registrations) (lit≤ tt) (lit≤ tt) kept) in
      let behind = same-on (far billed_place (cell_count - billed_place) (lit≤ tt)) (entries.behind billed_place (cell_count - billed_place) (lit≤ tt)) in
      cc (
        (same-on (same-on (same-before start 0 1 (lit≤ tt)) (same-before row 0 1 (omega arith))) (entries.before 0 1 (lit≤ tt))).cell 0 (lit< tt),
        (same-on (same-before row 1 1 (omega arith)) (entries.before 1 1 (lit≤ tt))).cell 0 (lit< tt),
        start.inside 0 (lit< tt),
        kept.cell 0 (lit< tt),
        kept.cell 1 (lit< tt),
        terms-kept (same_in leap_place (events_place - leap_place) (lit≤ tt) (lit≤ tt) kept),
        clearings-kept (same_in clearings_place (clearing_width * registrations) (lit≤ tt) (lit≤ tt) behind),
        events-kept (same_in events_place (event_width * event_limit) (lit≤ tt) (lit≤ tt) kept),
        tests-laid laid p (groups-kept a f same) s (untaken-free a k.sound p x),
        retests-kept (same_in retest_entries_place entries_width (lit≤ tt) (lit≤ tt) behind),
        billed-kept (same_in billed_place (clearings_place - billed_place) (lit≤ tt) (lit≤ tt) behind),
      )

-- a retest by its entries alone
module _ {c d : List ℕ} (l : List ℕ) (entries : Entered retest_entries_place l c d) where
  retest : (i : ℕ) → i < registrations → (b : Bool) → flag (at l i) ≡ b → retest_at (from retest_entries_place d) i ≡ cond b (retest_by (listing_at (at l)) i) (get_or (cell_retests c) i no_retest)
  retest i m true e = cc (entries.marks i m, entries.reductions i m, e, row-reduction l m)
  retest i m false e = rw (retest-in c no_retest m) (cc (entries.marks i m, entries.reductions i m, e))

  pub retest-laid : year_in d ≡ after_retest c l
  unfolding cell_retests
  retest-laid =
      let kept = entries.before 0 retest_entries_place (lit≤ tt) in
      let same = registrations-kept (same_in registrations_place (registration_width * registrations) (lit≤ tt) (lit≤ tt) kept) in
      cc (
        kept.cell 0 (lit< tt),
        kept.cell 1 (lit< tt),
        kept.cell 2 (lit< tt),
        kept.cell 3 (lit< tt),
        terms-kept (same_in leap_place (events_place - leap_place) (lit≤ tt) (lit≤ tt) kept),
        clearings-kept (same_in clearings_place (clearing_width * registrations) (lit≤ tt) (lit≤ tt) kept),
        events-kept (same_in events_place (event_width * event_limit) (lit≤ tt) (lit≤ tt) kept),
        tests-kept same (same_in tests_place (billed_place - tests_place) (lit≤ tt) (lit≤ tt) kept),
        tabulate-same registrations {f = retest_at (from retest_entries_place d)} {g = λ i. cond (listed (listing_at (at l)) i) (retest_by (listing_at (at l)) i) (get_or (cell_retests c) i no_retest)} (λ i m. rw (row_listed l m) (retest i m (flag (at l i)) refl)),
        billed-kept (same_in billed_place (clearings_place - billed_place) (lit≤ tt) (lit≤ tt) kept),
      )
