-- What the tests of a sound year list, by the entries of all tests in its cells.
use Rattle.std.specs.Prelude.{ℕ, ◌+◌, ◌≤◌, ◌<◌, ◌≡◌, Bool, cond, List, get_or}
use Rattle.std.proofs.Math.Bool.{false, and-false}
use Rattle.std.proofs.Math.Decide.{dec_lt}
use Rattle.std.proofs.Common.{arith, ne_eqb}
use Rattle.std.proofs.Math.ListN.{get_or-eq_default}
use Rattle.ids.specs.Ids.{at}
use Rattle.ids.specs.Tables.{get_or-tabulate}
use Rattle.ids.specs.Sets.{get_or-replicate-same}
use Rattle.limits.specs.Limits.{registrations, test_groups}
use Rattle.year_cells.specs.Places.{reductions_in, test_entries_place}
use Rattle.year.specs.Year.{no_test, listed, reduction}
use Rattle.year.specs.Sound.{Sound}
use Rattle.year.specs.Limits.{zone-below, product-below}
use Rattle.year_cells.specs.Rows.{from}
use Rattle.year_cells.specs.Layout.{flag, group_in, entry_at, cell_tests, year_in}
use Rattle.year_cells.specs.Regions.{test_in}

-- registration i's entry in the test of group p: its mark, and its reduction
module _ (c : List ℕ) (p i : ℕ) where
  abbrev pub tested_at : Bool
  tested_at = entry_at (group_in c) (from test_entries_place c) p i

  abbrev pub first_at : ℕ
  first_at = cond tested_at (at c (test_entries_place + (reductions_in + i))) 0

module _ (c : List ℕ) (s : Sound (year_in c)) where
  pub group-below : (i : ℕ) → group_in c i < test_groups
  unfolding group_in
  group-below i = omega (arith, zone-below s.terms i, product-below s.terms i)

  -- no registration has a group past the last test
  module _ {p : ℕ} (l : test_groups ≤ p) where
    past : get_or (cell_tests c) p no_test ≡ no_test
    past = get_or-eq_default (cell_tests c) no_test (omega (arith, s.groups))

    off : (i : ℕ) → tested_at c p i ≡ false
    off i = rw (ne_eqb (group_in c i) p (λ q. omega (arith, group-below i))) (and-false (flag (at c (test_entries_place + i))))

  pub tested-in : (p : ℕ) {i : ℕ} → i < registrations → listed (get_or (cell_tests c) p no_test).listing i ≡ tested_at c p i
  unfolding listed
  tested-in p {i} m = elim (dec_lt p test_groups) [
    | yes l ↦ rw (test_in c no_test l) (get_or-tabulate (tested_at c p) registrations i false m)
    | no l ↦ rw (past {p = p} (omega arith), off {p = p} (omega arith) i) (get_or-replicate-same registrations i false)
  ]

  pub first-in : (p : ℕ) {i : ℕ} → i < registrations → reduction (get_or (cell_tests c) p no_test).listing i ≡ first_at c p i
  unfolding reduction
  first-in p {i} m = elim (dec_lt p test_groups) [
    | yes l ↦ rw (test_in c no_test l) (get_or-tabulate (first_at c p) registrations i 0 m)
    | no l ↦ rw (past {p = p} (omega arith), off {p = p} (omega arith) i) (get_or-replicate-same registrations i 0)
  ]
