-- The tests in the cells after one is laid.
use Rattle.std.specs.Prelude.{ℕ, ◌+◌, ◌*◌, ◌<◌, ◌≡◌, refl, Bool, true, false, cond, List, ◌≢◌, get_or, set}
use Rattle.std.proofs.Math.Path.{sym}
use Rattle.std.proofs.Common.{◌∙◌, arith, length-set, get_or-set_same, get_or-set_other, eq-eqb, ne_eqb}
use Rattle.std.proofs.Math.Bool.{and-false}
use Rattle.std.proofs.Math.Decide.{ℕ_discrete}
use Rattle.ids.specs.Ids.{at}
use Rattle.ids.specs.Tables.{length-tabulate, is-tabulate, tabulate-same}
use Rattle.limits.specs.Limits.{registrations, sellers, test_groups}
use Rattle.year_cells.specs.Places.{reductions_in, deficits_in, test_deficits_in, test_width, tests_place, test_entries_place}
use Rattle.year.specs.declared.Listing.{Listing}
use Rattle.year.specs.declared.Test.{Test}
use Rattle.year.specs.declared.Year.{Year}
use Rattle.year.specs.Year.{no_test, listed, reduction}
use Rattle.year.specs.Listing.{single}
use Rattle.year.specs.Steps.{with_test, with_retest}
use Rattle.year.specs.Sound.{SoundTest, Sound}
use Rattle.year_cells.specs.Rows.{from, Same}
use Rattle.year_cells.specs.Layout.{flag, listing_at, cell_terms, group_in, test_at, cell_tests, year_in}
use Rattle.year_cells.specs.Regions.{row_listed, row-reduction, test-same, test_in}
use Rattle.year_tested.specs.Tested.{tested_at, first_at, tested-in}

-- a test that was taken
abbrev pub taken_test : ℕ → Listing → Test
taken_test month l = record { taken = true; month = month; listing = single l }

-- the year in the cells after the test of a group, and after a retest, from the row of its listing
abbrev pub after_test : List ℕ → ℕ → ℕ → List ℕ → Year
after_test c group month l = with_test (year_in c) group (taken_test month (listing_at (at l)))

abbrev pub after_retest : List ℕ → List ℕ → Year
after_retest c l = with_retest (year_in c) (listing_at (at l))

-- a group without a test lists nothing
pub untaken-free : (c : List ℕ) → Sound (year_in c) → {k : ℕ} → k < test_groups → (get_or (cell_tests c) k no_test).taken ≡ false → (i : ℕ) → i < registrations → tested_at c k i ≡ false
untaken-free c s {k} l e i m = sym (tested-in c s k m) ∙ (s.tests k l).untaken e i m

-- d is c with the test of a group: its row, and the entries that it lists, from the row of its listing
pub record Tested (group m : ℕ) (l c d : List ℕ) : Type 0 where
  pub taken : at d (tests_place + test_width * group + 0) ≡ 1
  pub month : at d (tests_place + test_width * group + 1) ≡ m
  pub deficits : (j : ℕ) → j < sellers → at d (tests_place + test_width * group + (test_deficits_in + j)) ≡ at l (deficits_in + j)
  pub others : (k : ℕ) → k < test_groups → k ≢ group → Same (tests_place + test_width * k) test_width c d
  pub marks : (i : ℕ) → i < registrations → at d (test_entries_place + i) ≡ cond (flag (at l i)) (at l i) (at c (test_entries_place + i))
  pub reductions : (i : ℕ) → i < registrations → at d (test_entries_place + (reductions_in + i)) ≡ cond (flag (at l i)) (at l (reductions_in + i)) (at c (test_entries_place + (reductions_in + i)))

module _ {group month : ℕ} {l c d : List ℕ} (h : Tested group month l c d) (p : group < test_groups) (same-groups : (i : ℕ) → group_in d i ≡ group_in c i)
    (s : SoundTest (cell_terms c) group (taken_test month (listing_at (at l)))) (free : (i : ℕ) → i < registrations → tested_at c group i ≡ false) where
  -- a listed registration has this group
  own-group : (i : ℕ) → i < registrations → flag (at l i) ≡ true → group_in d i ≡ group
  unfolding listed group_in
  own-group i m e = same-groups i ∙ s.own i m (row_listed l m ∙ e)

  -- what is not listed has no reduction
  no-reduction : (i : ℕ) → i < registrations → flag (at l i) ≡ false → at l (reductions_in + i) ≡ 0
  unfolding listed reduction
  no-reduction i m e = sym (row-reduction l m) ∙ s.listing.unlisted i m (row_listed l m ∙ e)

  -- the entries of the group, and those of another
  entries-here : (i : ℕ) → i < registrations → (b : Bool) → flag (at l i) ≡ b → (tested_at d group i ≡ flag (at l i)) × (first_at d group i ≡ at l (reductions_in + i))
  entries-here i m true e =
      rw (h.marks i m, h.reductions i m, e, e, eq-eqb (group_in d i) group (own-group i m e)) (refl, refl)
  entries-here i m false e = rw (h.marks i m, h.reductions i m, e, same-groups i, free i m) (refl, sym (no-reduction i m e))

  entries-there : (k : ℕ) → k ≢ group → (i : ℕ) → i < registrations → (b : Bool) → flag (at l i) ≡ b
      → (tested_at d k i ≡ tested_at c k i) × (first_at d k i ≡ first_at c k i)
  entries-there k n i m true e =
      let other = ne_eqb (group_in c i) k (λ q. n (sym q ∙ sym (same-groups i) ∙ own-group i m e)) in
      rw (same-groups i, other, and-false (flag (at d (test_entries_place + i))), and-false (flag (at c (test_entries_place + i)))) (refl, refl)
  entries-there k n i m false e = rw (h.marks i m, h.reductions i m, e, same-groups i) (refl, refl)

  pub tests-laid : cell_tests d ≡ set (cell_tests c) group (taken_test month (listing_at (at l)))
  unfolding cell_tests
  tests-laid =
      sym (is-tabulate (λ k. test_at (group_in d) (from test_entries_place d) k (from (tests_place + test_width * k) d)) test_groups no_test (set (cell_tests c) group new)
      (length-set (cell_tests c) group new ∙ length-tabulate (λ k. test_at (group_in c) (from test_entries_place c) k (from (tests_place + test_width * k) c)) test_groups)
      (λ k m. go k m (ℕ_discrete k group)))
    where
      new : Test
      new = taken_test month (listing_at (at l))

      go : (k : ℕ) → k < test_groups → Dec (k ≡ group) → get_or (set (cell_tests c) group new) k no_test ≡ test_at (group_in d) (from test_entries_place d) k (from (tests_place + test_width * k) d)
      go k m (yes e) =
          let here : (i : ℕ) → i < registrations → _ = λ i b. entries-here i b (flag (at l i)) refl in
          rw e (get_or-set_same (cell_tests c) group new no_test (omega (arith, length-tabulate (λ k. test_at (group_in c) (from test_entries_place c) k (from (tests_place + test_width * k) c)) test_groups))
          ∙ sym (cc (
            h.taken,
            h.month,
            tabulate-same registrations {f = tested_at d group} {g = λ i. flag (at l i)} (λ i b. (here i b).0),
            tabulate-same registrations {f = first_at d group} {g = λ i. at l (reductions_in + i)} (λ i b. (here i b).1),
            tabulate-same sellers {f = λ j. at d (tests_place + test_width * group + (test_deficits_in + j))} {g = λ j. at l (deficits_in + j)} h.deficits,
          )))
      go k m (no n) =
          get_or-set_other (cell_tests c) group k new no_test n ∙ test_in c no_test m
          ∙ sym (test-same k (group_in d) (group_in c) (from test_entries_place d) (from test_entries_place c) (from (tests_place + test_width * k) d) (from (tests_place + test_width * k) c)
          (h.others k m n).cell (λ i b. entries-there k n i b (flag (at l i)) refl))
