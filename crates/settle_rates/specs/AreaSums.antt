-- The sums of an area's registrations with rates of their own, as they stand in the working table.
use Rattle.std.specs.Prelude.{ℕ, ◌+◌, ◌*◌, ◌≤◌, ◌<◌, Bool, true, false, cond, List, ◌≡◌, refl}
use Rattle.std.proofs.Common.{arith, zero-mul, mul-le-mul, le_refl}
use Rattle.ids.specs.Ids.{at, only}
use Rattle.ids.specs.Tests.{cond-le}
use Rattle.limits.specs.Limits.{registrations, areas, nominated_limit, nominated_sum, rate_limit}
use Rattle.year.specs.Year as year
use Rattle.owed.specs.Facts.{Facts}
use Rattle.owed.specs.Owed.{has_own_rate}
use Rattle.owed.specs.Owed as owed
use Rattle.owed_laws.specs.Limits.{Limits}
use Rattle.settle_table.specs.Places.{area_kw_row, area_worth_row}
use Rattle.settle_table.specs.Rows.{Stored, Grown, none, grown-kept, grown-more, grown-most}

-- what registration i adds: kilowatts, and what they are worth
module _ (F : Facts) where
  abbrev pub averaged_kw : ℕ → ℕ
  averaged_kw = only (has_own_rate F) (year.committed F.terms)

  abbrev pub worth_at : ℕ → ℕ
  worth_at = only (has_own_rate F) (λ i. year.committed F.terms i * owed.own F i)

-- by area the sums of the first i registrations
pub record AreaSums (F : Facts) (i : ℕ) (w : List ℕ) : Type 0 where
  pub kw : Grown w area_kw_row areas none (year.area F.terms) (averaged_kw F) i
  pub worth : Grown w area_worth_row areas none (year.area F.terms) (worth_at F) i

-- what is lent, at the own rate
pub worth-is : (F : Facts) (i : ℕ) → averaged_kw F i * owed.own F i ≡ worth_at F i
worth-is F i = go (has_own_rate F i)
  where
    go : (b : Bool) → cond b (year.committed F.terms i) 0 * owed.own F i ≡ cond b (year.committed F.terms i * owed.own F i) 0
    go true = refl
    go false = zero-mul (owed.own F i)

module _ {F : Facts} (L : Limits F) (i : ℕ) where
  pub area-le : averaged_kw F i ≤ nominated_limit
  area-le = cond-le (has_own_rate F i) (L.committed i)

  pub worth-at-le : worth_at F i ≤ 10000000000
  worth-at-le = cond-le (has_own_rate F i) (mul-le-mul (L.committed i) (L.own i))

-- room for one more
module _ {F : Facts} (L : Limits F) {i : ℕ} (b : i ≤ registrations) {w : List ℕ} (h : AreaSums F i w) (a : ℕ) (m : a < areas) where
  pub area-room : at w (area_kw_row + a) ≤ nominated_sum
  area-room = grown-most h.kw 0 nominated_limit b (λ j l. le_refl 0) (λ j l. area-le L j) a m

  pub worth-room : at w (area_worth_row + a) ≤ (nominated_sum * rate_limit)
  worth-room = grown-most h.worth 0 10000000000 b (λ j l. le_refl 0) (λ j l. worth-at-le L j) a m

-- one more
module _ (F : Facts) (i : ℕ) {w m v : List ℕ} (l : year.area F.terms i < areas)
    (s₁ : Stored (area_kw_row + year.area F.terms i) (at w (area_kw_row + year.area F.terms i) + averaged_kw F i) w m) (s₂ : Stored (area_worth_row + year.area F.terms i) (at m (area_worth_row + year.area F.terms i) + worth_at F i) m v) where
  pub sums-more : AreaSums F i w → AreaSums F (i + 1) v
  sums-more h =
      record {
        kw = grown-kept (grown-more h.kw s₁ l refl refl) s₂ (λ a b. omega arith);
        worth = grown-more (grown-kept h.worth s₁ (λ a b. omega arith)) s₂ l refl refl;
      }

-- what is stored before the sums leaves them as they are
pub sums_kept : {F : Facts} {i q x : ℕ} {w v : List ℕ} → AreaSums F i w → Stored q x w v → q < area_kw_row → AreaSums F i v
sums_kept h s l =
    record { kw = grown-kept h.kw s (λ a b. omega arith); worth = grown-kept h.worth s (λ a b. omega arith) }
