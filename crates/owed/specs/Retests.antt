-- What decides whether a seller may retest (document 02, C-15): its entries in the test of a group as it was recorded, whatever events list since and whatever retests say. p is the group of a test, s a seller, i a registration.
use Rattle.std.specs.Prelude.{ℕ, ◌*◌, Bool, ◌&&◌, ltb, eqb}
use Rattle.ids.specs.Ids.{sum_to, any_to, only}
use Rattle.limits.specs.Limits.{registrations}
use Rattle.year.specs.Year.{listed, reduction, committed}
use Rattle.owed.specs.Facts.{Facts}

-- are failed kW × 4 between 1 and one less than tested kW
unfoldable pub below_quarter : ℕ → ℕ → Bool
below_quarter failed tested = ltb 0 (failed * 4) && ltb (failed * 4) tested

module _ (F : Facts) where
  -- has the test an entry of the seller for registration i, and did it fail: was its reduction below its commitment
  unfoldable pub test_entry : ℕ → ℕ → ℕ → Bool
  test_entry p s i = listed (F.test p).listing i && eqb (F.seller i) s

  unfoldable pub failed : ℕ → ℕ → ℕ → Bool
  failed p s i = test_entry p s i && ltb (reduction (F.test p).listing i) (committed F.terms i)

  -- the seller's tested and failed kW: sums of commitments
  unfoldable pub tested_kw : ℕ → ℕ → ℕ
  tested_kw p s = sum_to registrations (only (test_entry p s) (committed F.terms))

  unfoldable pub failed_kw : ℕ → ℕ → ℕ
  failed_kw p s = sum_to registrations (only (failed p s) (committed F.terms))

  -- has the seller had a retest of it: is one of its entries retested (a retest lists at least one, and none but these)
  unfoldable pub had_retest : ℕ → ℕ → Bool
  had_retest p s = any_to registrations (λ i. test_entry p s i && (F.retest i).taken)
