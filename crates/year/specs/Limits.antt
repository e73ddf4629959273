-- What sound terms and listings say of every id, also past the arrays' ends.
use Rattle.std.specs.Prelude.{ℕ, zero, suc, ◌*◌, ◌≤◌, ◌<◌, ◌≡◌, Bool, true, false, List, [], ◌∷◌, length, get_or}
use Rattle.std.proofs.Common.{arith, lit≤}
use Rattle.ids.specs.Ids.{sum_to, only}
use Rattle.ids.specs.Sums.{sum_bound}
use Rattle.ids.specs.Tests.{cond-le}
use Rattle.ids.specs.Each.{Each}
use Rattle.limits.specs.Limits.{registrations, sellers, lses, areas, zones, products, nominated_limit, rate_limit}
use Rattle.year.specs.declared.Listing.{Listing}
use Rattle.year.specs.declared.Terms.{Terms}
use Rattle.year.specs.declared.Year.{Year}
use Rattle.year.specs.Year.{registration, clearings_of, retest_of, known, seller, area, zone, product, committed, field_rate, size, lse_count, reduction, second}
use Rattle.year.specs.Sound.{SoundRegistration, SoundClearings, AtMost, SoundListing, SoundRetest, SoundTerms, Sound}
use Rattle.year.specs.StaysSound.{sound-no-registration, sound-no-clearings}

-- what holds of the default and of each element holds of what is read anywhere
module _ {A : Type 0} (P : A → Type 0) {d : A} (h : P d) where
  anywhere : (l : List A) → ((k : ℕ) → k < length l → P (get_or l k d)) → (i : ℕ) → P (get_or l i d)
  anywhere [] e i = h
  anywhere (x ∷ xs) e zero = e zero (omega arith)
  anywhere (x ∷ xs) e (suc i) = anywhere xs (λ k l. e (suc k) (omega arith)) i

  pub each-anywhere : {n : ℕ} {l : List A} → Each P d n l → (i : ℕ) → P (get_or l i d)
  each-anywhere {l = l} e = anywhere l (λ k b. e.at k (omega (arith, e.long)))

module _ {T : Terms} (s : SoundTerms T) where
  pub registration-sound : (i : ℕ) → SoundRegistration (registration T i)
  registration-sound = each-anywhere SoundRegistration sound-no-registration s.registrations

  pub seller-below : (i : ℕ) → seller T i < sellers
  unfolding seller
  seller-below i = (registration-sound i).seller

  pub area-below : (i : ℕ) → area T i < areas
  unfolding area
  area-below i = (registration-sound i).area

  pub zone-below : (i : ℕ) → zone T i < zones
  unfolding zone
  zone-below i = (registration-sound i).zone

  pub product-below : (i : ℕ) → product T i < products
  unfolding product
  product-below i = (registration-sound i).product

  pub committed-most : (i : ℕ) → committed T i ≤ nominated_limit
  unfolding committed
  committed-most i = (registration-sound i).committed

  pub committed-sum : (p : ℕ → Bool) (n : ℕ) → sum_to n (only p (committed T)) ≤ n * nominated_limit
  committed-sum p n = sum_bound n nominated_limit (only p (committed T)) (λ i l. cond-le (p i) (committed-most i))

  pub committed-some : (i : ℕ) → known T i ≡ true → 1 ≤ committed T i
  unfolding known committed
  committed-some i e = (registration-sound i).some e

  pub committed-blank : (i : ℕ) → known T i ≡ false → committed T i ≡ 0
  unfolding known committed
  committed-blank i e = (registration-sound i).blank e

  pub field-rate-most : (i : ℕ) → field_rate T i ≤ rate_limit
  unfolding field_rate
  field-rate-most i = (registration-sound i).rate

  pub size_is : size T ≡ registrations
  size_is = s.registrations.long

  pub lse-count-is : lse_count T ≡ lses
  lse-count-is = s.obligations.long

pub clearings-sound : {y : Year} → Sound y → (i : ℕ) → SoundClearings (clearings_of y i)
clearings-sound s = each-anywhere SoundClearings sound-no-clearings s.clearings

pub retest-most : {y : Year} → Sound y → (i : ℕ) → (retest_of y i).reduction ≤ nominated_limit
retest-most s = each-anywhere SoundRetest (lit≤ tt) s.retests

module _ {l : Listing} (s : SoundListing l) where
  pub reduction-most : (i : ℕ) → reduction l i ≤ nominated_limit
  unfolding reduction
  reduction-most = each-anywhere (AtMost nominated_limit) (lit≤ tt) s.reductions

  pub second-most : (i : ℕ) → second l i ≤ nominated_limit
  unfolding second
  second-most = each-anywhere (AtMost nominated_limit) (lit≤ tt) s.second
