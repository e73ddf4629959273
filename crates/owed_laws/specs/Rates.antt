-- The rate in force: at most what a field and each price can be, and at least 1 where anything can be borrowed.
use Rattle.std.specs.Prelude.{ℕ, ◌*◌, ◌/◌, ◌≤◌, ◌<◌, Bool, ◌&&◌, ◌≡◌, ltb}
use Rattle.std.proofs.Math.Bool.{true, false, cond}
use Rattle.std.proofs.Math.Path.{refl}
use Rattle.std.proofs.Common.{arith, mul-le-mul_left, le-div_iff_mul-le}
use Rattle.std.proofs.Math.Nat.{div-le_of_le-mul}
use Rattle.std.proofs.Math.Dec.{eqb}
use borrow.Author.Tests.{ltb-true, lt-ltb, eq-eqb, ne_eqb}
use Rattle.ids.specs.Ids.{sum_to, only, keyed}
use Rattle.ids.specs.Sums.{sum-mul, sum-le, sum_one}
use Rattle.ids.specs.Tests.{cond-le}
use Rattle.limits.specs.Limits.{registrations, rate_limit}
use Rattle.year.specs.Year as year
use Rattle.owed.specs.Facts.{Facts}
use Rattle.owed.specs.Owed.{own, has_own_rate, of_area, area_rate, rate}

-- what kilowatts are worth at rates, all of a key that are picked: at most their most, and at least as much where no rate is 0
module _ (n : ℕ) (key kw q : ℕ → ℕ) (p : ℕ → Bool) (k : ℕ) where
  abbrev weight : ℕ
  weight = sum_to n (keyed key (only p kw) k)

  abbrev worth : ℕ
  worth = sum_to n (keyed key (only p (λ i. kw i * q i)) k)

  pub worth-most : (m : ℕ) → ((i : ℕ) → q i ≤ m) → worth ≤ weight * m
  worth-most m h =
      omega (arith, sum-mul n (keyed key (only p kw) k) m, sum-le n {g = λ i. keyed key (only p kw) k i * m} (λ i l. go (eqb (key i) k) (p i) (kw i) (h i)))
    where
      go : (s b : Bool) (c : ℕ) {x : ℕ} → x ≤ m → cond s (cond b (c * x) 0) 0 ≤ cond s (cond b c 0) 0 * m
      go false b c h = omega arith
      go true false c h = omega arith
      go true true c h = mul-le-mul_left c h

  pub worth-least : ((i : ℕ) → p i ≡ true → 1 ≤ q i) → weight ≤ worth
  worth-least h = sum-le n (λ i l. go (eqb (key i) k) (p i) (kw i) (h i))
    where
      go : (s b : Bool) (c : ℕ) {x : ℕ} → (b ≡ true → 1 ≤ x) → cond s (cond b c 0) 0 ≤ cond s (cond b (c * x) 0) 0
      go false b c h = omega arith
      go true false c h = omega arith
      go true true c h = omega (arith, mul-le-mul_left c (h refl))

-- a registration's own
pub own-le : (F : Facts) (i : ℕ) → year.field_rate F.terms i ≤ rate_limit → (F.clearings i).value ≤ rate_limit * (F.clearings i).kw → own F i ≤ rate_limit
unfolding own
own-le F i f v = cond-le (year.known F.terms i) (go (ltb 0 (F.clearings i).count))
  where
    go : (b : Bool) → cond b ((F.clearings i).value / (F.clearings i).kw) (year.field_rate F.terms i) ≤ rate_limit
    go true = div-le_of_le-mul (F.clearings i).kw (omega (arith, v))
    go false = f

module _ (F : Facts) where
  area-rate-le : ((i : ℕ) → own F i ≤ rate_limit) → (a : ℕ) → area_rate F a ≤ rate_limit
  unfolding of_area area_rate
  area-rate-le h a = div-le_of_le-mul (of_area F a (only (has_own_rate F) (year.committed F.terms))) (worth-most registrations (year.area F.terms) (year.committed F.terms) (own F) (has_own_rate F) a rate_limit h)

  pub rate-le : ((i : ℕ) → own F i ≤ rate_limit) → (i : ℕ) → rate F i ≤ rate_limit
  unfolding rate
  rate-le h i = go (year.known F.terms i && eqb (own F i) 0)
    where
      go : (b : Bool) → cond b (area_rate F (year.area F.terms i)) (own F i) ≤ rate_limit
      go true = area-rate-le h (year.area F.terms i)
      go false = h i

  -- the rate of an area where registration j has a rate of its own
  pub area-rate-some : (j : ℕ) → j < registrations → 1 ≤ own F j → 1 ≤ year.committed F.terms j → 1 ≤ area_rate F (year.area F.terms j)
  unfolding of_area area_rate
  area-rate-some j l some-rate some =
      let a = year.area F.terms j in
      let one : 1 ≤ of_area F a (only (has_own_rate F) (year.committed F.terms)) =
      omega (arith, some, rw (eq-eqb a a refl, lt-ltb 0 (own F j) some-rate) at (sum_one (keyed (year.area F.terms) (only (has_own_rate F) (year.committed F.terms)) a) l)) in
      (le-div_iff_mul-le one).1 (omega (arith, worth-least registrations (year.area F.terms) (year.committed F.terms) (own F) (has_own_rate F) a (λ i e. ltb-true 0 (own F i) e)))

  -- a registration that keeps its own, and one that borrows
  module _ (i : ℕ) where
    pub rate-kept : 1 ≤ own F i → own F i ≡ rate F i
    unfolding rate
    rate-kept h = rw (ne_eqb (own F i) 0 (λ e. omega arith)) (go (year.known F.terms i))
      where
        go : (b : Bool) → own F i ≡ cond (b && false) (area_rate F (year.area F.terms i)) (own F i)
        go true = refl
        go false = refl

    pub rate-unknown : year.known F.terms i ≡ false → own F i ≡ rate F i
    unfolding rate
    rate-unknown e = rw e

    pub rate-borrowed : year.known F.terms i ≡ true → own F i ≡ 0 → rate F i ≡ area_rate F (year.area F.terms i)
    unfolding rate
    rate-borrowed e z = rw (e, eq-eqb (own F i) 0 z)
