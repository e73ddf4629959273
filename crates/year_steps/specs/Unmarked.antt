-- The tests in the cells before any is taken: no entry is marked, so that no registration's place matters.
use Rattle.std.specs.Prelude.{ℕ, ◌+◌, ◌-◌, ◌*◌, ◌<◌, ◌≡◌, refl, false, ◌&&◌, List, eqb, get_or, replicate}
use Rattle.std.proofs.Common.{sym, ◌∙◌, arith, lit≤, eq-eqb}
use Rattle.std.proofs.Math.Bool.{and-true}
use Rattle.std.proofs.lemmas.List.{get_or-replicate}
use Rattle.ids.specs.Ids.{at}
use Rattle.ids.specs.Tables.{tabulate-same}
use Rattle.limits.specs.Limits.{registrations, test_groups}
use Rattle.year_cells.specs.Places.{test_width, entries_width, tests_place, test_entries_place, billed_place}
use Rattle.year.specs.Year.{no_test, listed}
use Rattle.year.specs.Sound.{Sound}
use Rattle.year_cells.specs.Rows.{from, Same, same_row, same_in}
use Rattle.year_cells.specs.Layout.{flag, group_in, cell_tests, year_in}
use Rattle.year_cells.specs.Regions.{test-same}
use Rattle.year_tested.specs.Tested.{group-below, tested-in}

pub unmarked : (c : List ℕ) → Sound (year_in c) → cell_tests c ≡ replicate test_groups no_test → (i : ℕ) → i < registrations → flag (at c (test_entries_place + i)) ≡ false
unfolding listed
unmarked c s e i m =
    let k = group_in c i in
    let none : listed (get_or (replicate test_groups no_test) k no_test).listing i ≡ false = rw (get_or-replicate test_groups k no_test no_test (group-below c s i)) (get_or-replicate registrations i false false m) in
    let here : (flag (at c (test_entries_place + i)) && eqb k k) ≡ false = sym (tested-in c s k m) ∙ rw e none in
    sym (and-true (flag (at c (test_entries_place + i)))) ∙ (rw (eq-eqb k k refl) at here)

pub tests-unmarked : {c d : List ℕ} → ((i : ℕ) → i < registrations → flag (at c (test_entries_place + i)) ≡ false) → Same tests_place (billed_place - tests_place) c d → cell_tests d ≡ cell_tests c
unfolding cell_tests
tests-unmarked {c} {d} u s =
    tabulate-same test_groups
    (λ k l. test-same k (group_in d) (group_in c) (from test_entries_place d) (from test_entries_place c) (from (tests_place + test_width * k) d) (from (tests_place + test_width * k) c)
    (same_row tests_place test_width test_groups k l (same_in tests_place (test_width * test_groups) (lit≤ tt) (lit≤ tt) s)).cell
    (λ i m. let kept = same_in test_entries_place entries_width (lit≤ tt) (lit≤ tt) s in rw (kept.cell i (omega arith), u i m) (refl, refl)))
