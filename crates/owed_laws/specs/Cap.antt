-- The yearly limit: no more than the cap is ever spent of it, so a seller's compliance is at most its revenue to date.
use Prim.Native.Nat.{ℕ, zero, suc, ◌+◌, ◌*◌, ◌-◌, ◌/◌, ◌≤◌, min}
use Rattle.std.specs.Prelude.{Bool, ◌≡◌, leb}
use Rattle.std.proofs.Math.Bool.{true, false, cond}
use Rattle.std.proofs.Math.Path.{refl}
use native.Mathlib.Omega.{arith}
use Rattle.std.proofs.Common.{mul-le-mul_right}
use Rattle.std.proofs.Math.Nat.{div-mul-le_self, zero-mul}
use Rattle.ids.specs.Ids.{sum_to, only}
use Rattle.units.specs.Units.{convert-zero}
use Rattle.calendar.specs.Calendar.{due}
use Rattle.year.specs.Year as year
use Rattle.owed.specs.Facts.{Facts}
use Rattle.owed.specs.Owed.{D, unforced, rate, of_seller, cap, daily, spent, revenue, charge, compliance}
use Rattle.owed_laws.specs.Limits.{Limits}
use Rattle.owed_laws.specs.Sellers.{of_seller-mono, of_seller-mul, of_seller-sum}

module _ (F : Facts) where
  pub spent-le : (ev i : ℕ) → spent F ev i ≤ cap F i
  unfolding spent daily
  spent-le zero i = omega arith
  spent-le (suc ev) i = go (year.listed (F.event ev).listing i) _ (spent-le ev i)
    where
      go : (b : Bool) (a : ℕ) {c x : ℕ} → x ≤ c → x + cond b (min a (c - x)) 0 ≤ c
      go true a h = omega arith
      go false a h = omega arith

  module _ (k i : ℕ) where
    charge-days : (ev : ℕ) → charge F k ev i * 1000 ≤ daily F ev (spent F ev i) i * D F k
    unfolding charge
    charge-days ev = go (leb (due (year.product F.terms i) (F.event ev).month) k) (daily F ev (spent F ev i) i * D F k)
      where
        go : (b : Bool) (x : ℕ) → cond b (x / 1000) 0 * 1000 ≤ x
        go true x = div-mul-le_self x 1000
        go false x = omega arith

    -- the charges to date of the first m events
    charges-days : (m : ℕ) → sum_to m (λ ev. charge F k ev i) * 1000 ≤ spent F m i * D F k
    unfolding sum_to spent
    charges-days zero = omega arith
    charges-days (suc m) = omega (arith, charges-days m, charge-days m)

    pub charges-cap : (m : ℕ) → sum_to m (λ ev. charge F k ev i) * 1000 ≤ cap F i * D F k
    charges-cap m = omega (arith, charges-days m, mul-le-mul_right (D F k) (spent-le m i))

  pub seller-cap : (k m s : ℕ) {f : ℕ → ℕ} → ((i : ℕ) → cap F i ≤ f i) → sum_to m (λ ev. of_seller F s (charge F k ev)) * 1000 ≤ of_seller F s f * D F k
  seller-cap k m s {f} h =
      let g : ℕ → ℕ = λ i. sum_to m (λ ev. charge F k ev i) in
      omega (
        arith,
        of_seller-sum F s m (charge F k),
        of_seller-mul F s g 1000,
        of_seller-mul F s f (D F k),
        of_seller-mono F s {f = λ i. g i * 1000} {g = λ i. f i * D F k} (λ i l. omega (arith, charges-cap k i m, mul-le-mul_right (D F k) (h i))),
      )

module _ {F : Facts} (L : Limits F) where
  -- where there is no registration nothing is committed
  cap-known : (i : ℕ) → cap F i ≤ only (year.known F.terms) (cap F) i
  unfolding cap unforced
  cap-known i = go (year.known F.terms i) (L.blank i)
    where
      go : (b : Bool) → (b ≡ false → year.committed F.terms i ≡ 0) → cap F i ≤ cond b (cap F i) 0
      go true h = omega arith
      go false h = rw (h refl, convert-zero F.terms.factor F.terms.requirement, zero-mul (rate F i)) (omega arith)

  pub yearly-limit : (k s : ℕ) → compliance F k s * 1000 ≤ revenue F k s
  unfolding compliance revenue
  yearly-limit k s = seller-cap F k F.events s cap-known
