-- The entries of all tests and retests in the year's cells, as the facts of each test; which of them stand; and a group without a test.
use Rattle.std.specs.Prelude.{ℕ, ◌+◌, ◌*◌, ◌-◌, ◌≤◌, ◌<◌, ◌≡◌, Bool, ◌&&◌, Option, Some, None, List, get_or}
use Rattle.std.specs.Option.{is_some}
use Rattle.std.proofs.Math.Path.{refl, sym}
use Rattle.std.proofs.Common.{ap, ◌∙◌, eq-eqb}
use Rattle.std.proofs.Math.Bool.{true, false, not, cond}
use native.Mathlib.Omega.{arith}
use Rattle.std.proofs.Math.Nat.{zero-mul, zero-sub}
use Rattle.std.proofs.Math.Dec.{eqb}
use Rattle.ids.specs.Ids.{at, any_to, only}
use Rattle.ids.specs.Sums.{sum-zero}
use Rattle.ids.specs.Tests.{cond-le, none-at}
use Rattle.ids.specs.Tables.{get_or-tabulate}
use Rattle.units.specs.Units.{convert-zero}
use Rattle.limits.specs.Limits.{registrations, sellers, test_groups, nominated_limit}
use Rattle.year_cells.specs.Places.{reductions_in, test_deficits_in, test_width, tests_place, test_entries_place}
use Rattle.year.specs.Year.{no_test, retest_of, deficit}
use Rattle.year.specs.Year as year
use Rattle.year_cells.specs.Layout.{flag, group_in, year_in, ValidCells}
use Rattle.year_cells.specs.Regions.{test_in}
use Rattle.year_tested.specs.Tested.{tested-in, first-in}
use Rattle.owed.specs.Owed.{D, raised, unforced, of_seller, dispatched, shortfall_over, test_shortfall, B, test_charge}
use Rattle.owed.specs.Owed as owed
use Rattle.owed_laws.specs.Limits.{limits}
use Rattle.units.specs.declared.Nominated.{Nominated}
use Rattle.settle_facts.specs.CellFacts.{facts}
use Rattle.settle_table.specs.Places.{dispatched_row, group_row}
use Rattle.settle_table.specs.Rows.{Row, mark}
use Rattle.settle_table.specs.Columns.{Columns}

-- a test that is asked the other way round
pub unless : (b : Bool) {t : Bool} → not b ≡ t → b ≡ not t
unless true e = ap not e
unless false e = ap not e

module _ (c : List ℕ) where
  -- what a look at registration i's entry returns: the retested reduction, if there is one, else the first
  abbrev pub result_at : ℕ → ℕ
  result_at i = cond (retest_of (year_in c) i).taken (retest_of (year_in c) i).reduction (at c (test_entries_place + (reductions_in + i)))

  abbrev pub listed_at : ℕ → Bool
  listed_at i = flag (at c (test_entries_place + i))

  -- of one that no test lists, nothing
  abbrev pub look_at : ℕ → Option Nominated
  look_at i = cond (listed_at i) (Some (record { 0 = result_at i })) None

  pub looks : (i : ℕ) → is_some (look_at i) ≡ listed_at i
  looks i = go (listed_at i)
    where
      go : (b : Bool) → is_some {T = Nominated} (cond b (Some (record { 0 = result_at i })) None) ≡ b
      go true = refl
      go false = refl

  -- does it stand: is it listed, and its registration by no event
  unfoldable pub stands : ℕ → Bool
  stands i = listed_at i && not (dispatched (facts c) i)

  -- is the test of a group taken
  abbrev pub taken_at : ℕ → Bool
  taken_at p = (get_or (year_in c).tests p no_test).taken

  -- what the passes read of the working table
  pub record Ready (w : List ℕ) : Type 0 where
    pub columns : Columns (facts c) registrations w
    pub dispatched : Row w dispatched_row registrations (λ i. mark (dispatched (facts c) i))
    pub group : Row w group_row registrations (group_in c)

  pub stands-off : (i : ℕ) → listed_at i ≡ false → false ≡ stands i
  unfolding stands
  stands-off i e = rw e

  pub stands_on : (i : ℕ) {x : ℕ} → listed_at i ≡ true → x ≡ mark (dispatched (facts c) i) → eqb x 0 ≡ stands i
  unfolding stands
  stands_on i e f = rw (e, f) (go (dispatched (facts c) i))
    where
      go : (b : Bool) → eqb (mark b) 0 ≡ not b
      go true = refl
      go false = refl

  -- the facts of the test of group p
  module _ {p : ℕ} (l : p < test_groups) where
    pub deficit-in : {s : ℕ} → s < sellers → year.deficit ((facts c).test p).listing s ≡ at c (tests_place + test_width * p + (test_deficits_in + s))
    unfolding deficit
    deficit-in {s} m = rw (test_in c no_test l) (get_or-tabulate (λ j. at c (tests_place + test_width * p + (test_deficits_in + j))) sellers s 0 m)

    -- a test that was not taken charges nothing
    module _ (h : ValidCells c) (off : taken_at p ≡ false) where
      none-stands : (s : ℕ) (f : ℕ → ℕ) → of_seller (facts c) s (only (owed.stands (facts c) p) f) ≡ 0
      unfolding of_seller
      none-stands s f =
          sum-zero registrations (λ i m. go (eqb ((facts c).seller i) s) (not (dispatched (facts c) i)) (f i) ((h.sound.tests p l).untaken off i m))
        where
          go : (a d : Bool) (x : ℕ) {t : Bool} → t ≡ false → cond a (cond (t && d) x 0) 0 ≡ 0
          go true d x e = rw e
          go false d x e = refl

      none-short : (s : ℕ) → test_shortfall (facts c) p s ≡ 0
      unfolding shortfall_over unforced
      none-short s =
          let F = facts c in
          let net : of_seller F s (only (owed.stands F p) (year.committed F.terms)) - of_seller F s (only (owed.stands F p) (owed.result F p)) ≡ 0 = omega (arith, none-stands s (year.committed F.terms)) in
          rw (net, convert-zero F.terms.factor F.terms.requirement) (zero-sub (year.deficit (F.test p).listing s))

      pub untaken : (k s : ℕ) → test_charge (facts c) k p s ≡ 0
      unfolding test_charge
      untaken k s = rw (none-short s, zero-mul (raised (B (facts c) p s)), zero-mul (D (facts c) k))

-- without any test
pub none-taken : {c : List ℕ} → ValidCells c → (k s : ℕ) → any_to test_groups (taken_at c) ≡ false → 0 ≡ owed.test (facts c) k s
unfolding owed.test
none-taken {c} h k s e = sym (sum-zero test_groups (λ p l. untaken c l h (none-at test_groups (taken_at c) e p l) k s))

module _ {c : List ℕ} (h : ValidCells c) where
  pub tested_at : (p : ℕ) {i : ℕ} → i < registrations → year.listed ((facts c).test p).listing i ≡ (listed_at c i && eqb (group_in c i) p)
  tested_at p m = tested-in c h.sound p m

  -- the result of an entry that the test lists
  pub result-at : (p : ℕ) {i : ℕ} → i < registrations → year.listed ((facts c).test p).listing i ≡ true → result_at c i ≡ owed.result (facts c) p i
  unfolding owed.result
  result-at p {i} m on = rw (first-in c h.sound p m, sym (tested-in c h.sound p m) ∙ on)

  -- within limits
  listed_le : (i : ℕ) → i < registrations → listed_at c i ≡ true → result_at c i ≤ nominated_limit
  listed_le i m on =
      let p = group_in c i in
      let here : year.listed ((facts c).test p).listing i ≡ true = tested_at p m ∙ rw on (eq-eqb p p refl) in
      rw (result-at p m here) ((limits h.sound).result p i)

  pub reduction-le : (i : ℕ) → i < registrations → only (stands c) (result_at c) i ≤ nominated_limit
  unfolding stands
  reduction-le i m = go (listed_at c i) (not (dispatched (facts c) i)) (listed_le i m)
    where
      go : (t d : Bool) {x : ℕ} → (t ≡ true → x ≤ nominated_limit) → cond (t && d) x 0 ≤ nominated_limit
      go true d f = cond-le d (f refl)
      go false d f = omega arith

  pub standing-le : (i : ℕ) → i < registrations → stands c i ≡ true → result_at c i ≤ nominated_limit
  standing-le i m on = rw on at (reduction-le i m)

pub ruleset test_cells = deficit-in

pub ruleset marked = (looks, stands-off, stands_on)
