-- Bounds of what the rules compute for one entry, one registration, one seller or one event, where the facts are within their limits.
use Rattle.std.specs.Prelude.{ℕ, ◌*◌, ◌-◌, ◌/◌, ◌≤◌, ◌<◌, ◌^◌, Bool, ◌≡◌, refl, leb}
use Rattle.std.proofs.Math.Bool.{true, false, cond}
use native.Mathlib.Omega.{arith}
use Rattle.std.proofs.Math.Nat.{mul-le-mul, div-le_of_le-mul, div-mul-le_self, le_trans}
use Rattle.std.proofs.Common.{mul-le-mul_left, le_refl}
use Rattle.std.proofs.Math.Dec.{eqb}
use borrow.Author.Tests.{eq-eqb, eqb-false}
use Rattle.ids.specs.Ids.{sum_to, only, keyed}
use Rattle.ids.specs.Sums.{sum_bound}
use Rattle.ids.specs.Tests.{cond-le}
use Rattle.units.specs.Units.{convert-scaled, convert-le}
use Rattle.limits.specs.Limits.{registrations, nominated_limit, unforced_limit, nominated_sum, unforced_sum, rate_limit}
use Rattle.calendar.specs.Calendar.{due, days-le}
use Rattle.allotment.specs.Allot.{share-most}
use Rattle.year.specs.Year as year
use Rattle.owed.specs.Facts.{Facts}
use Rattle.owed.specs.Owed.{raised, D, unforced, own, area_rate, rate, of_seller, share_of, shortfall_over, short_of, over_of, over, u, measured, off_u, cap, daily, spent, charge, excess, e, credit_limit, credit_of, stands, result, test_shortfall, B, test_charge}
use Rattle.owed_laws.specs.Limits.{Limits}
use Rattle.owed_laws.specs.Rates.{worth-most, area-rate-some}
use Rattle.owed_laws.specs.Sellers.{of_seller-le, net-is, excess-is}
use Rattle.owed_laws.specs.Allotments.{e-allotted}

module _ {F : Facts} (L : Limits F) where
  pub D-le : (k : ℕ) → D F k ≤ 366
  D-le k = days-le k L.leap

  -- converted: at most 1.44 for 1, and so one registration's
  pub unforced-scaled : (a : ℕ) → unforced F a * 100 ≤ a * 144
  unfolding unforced
  unforced-scaled a = convert-scaled a L.factor L.requirement

  pub unforced-one : {a : ℕ} → a ≤ nominated_limit → unforced F a ≤ unforced_limit
  unfolding unforced
  unforced-one h = convert-le L.factor L.requirement h

  -- an entry's weights
  pub short-le : (p : ℕ → Bool) (v : ℕ → ℕ) (i : ℕ) → short_of F p v i ≤ nominated_limit
  short-le p v i = cond-le (p i) (omega (arith, L.committed i))

  pub over-le : (p : ℕ → Bool) {v : ℕ → ℕ} → ((i : ℕ) → v i ≤ nominated_limit) → (i : ℕ) → over_of F p v i ≤ nominated_limit
  over-le p h i = cond-le (p i) (omega (arith, h i))

  -- a seller's: what is committed, the shortfall, the excess
  pub committed-le : (p : ℕ → Bool) (s : ℕ) → of_seller F s (only p (year.committed F.terms)) ≤ nominated_sum
  committed-le p s = of_seller-le F s nominated_limit (λ i. cond-le (p i) (L.committed i))

  shortfall-scaled : (p : ℕ → Bool) (v d : ℕ → ℕ) (s : ℕ)
      → shortfall_over F p v d s * 100 ≤ (of_seller F s (only p (year.committed F.terms)) - of_seller F s (only p v)) * 144
  unfolding shortfall_over
  shortfall-scaled p v d s =
      omega (arith, unforced-scaled (of_seller F s (only p (year.committed F.terms)) - of_seller F s (only p v)))

  pub shortfall-le : (p : ℕ → Bool) (v d : ℕ → ℕ) (s : ℕ) → shortfall_over F p v d s ≤ unforced_sum
  shortfall-le p v d s = omega (arith, shortfall-scaled p v d s, committed-le p s)

  pub excess-le : (ev s : ℕ) → excess F ev s ≤ of_seller F s (over F ev)
  excess-le ev s = omega (arith, excess-is F s ev)

  -- an entry's shares: at most one registration's kilowatts
  shortfall-lack : (p : ℕ → Bool) (v d : ℕ → ℕ) (s : ℕ) → shortfall_over F p v d s * nominated_limit ≤ unforced_limit * of_seller F s (short_of F p v)
  shortfall-lack p v d s = omega (arith, net-is F s p v, shortfall-scaled p v d s)

  share-le : (p : ℕ → Bool) (v d : ℕ → ℕ) (i : ℕ) → share_of F (short_of F p v) (shortfall_over F p v d) i ≤ unforced_limit
  unfolding share_of of_seller
  share-le p v d i =
      let s = F.seller i in
      share-most registrations (keyed F.seller (short_of F p v) s) (shortfall_over F p v d s) i unforced_limit
      (le_trans (mul-le-mul_left (shortfall_over F p v d s) (cond-le (eqb s s) (short-le p v i))) (shortfall-lack p v d s))

  pub u-le : (ev i : ℕ) → u F ev i ≤ unforced_limit
  unfolding u
  u-le ev i = share-le (year.listed (F.event ev).listing) (year.reduction (F.event ev).listing) (year.deficit (F.event ev).listing) i

  pub off-u-le : (ev i : ℕ) → off_u F ev i ≤ unforced_limit
  unfolding off_u
  off-u-le ev i = share-le (measured F ev) (year.second (F.event ev).listing) (year.deficit (F.event ev).listing) i

  pub e-le : (ev i : ℕ) → e F ev i ≤ nominated_limit
  unfolding of_seller
  e-le ev i =
      let s = F.seller i in
      le_trans (rw (eq-eqb s s refl) at ((e-allotted F ev s).at_most (excess-le ev s) i)) (over-le (year.listed (F.event ev).listing) (L.reduction ev) i)

  -- a registration's cap, and what is spent of it
  pub cap-le : (i : ℕ) → cap F i ≤ 14400000000
  unfolding cap
  cap-le i = mul-le-mul (unforced-one (L.committed i)) (L.rate i)

  pub daily-le : (ev x i : ℕ) → daily F ev x i ≤ 14400000000
  unfolding daily
  daily-le ev x i = cond-le (year.listed (F.event ev).listing i) (omega (arith, cap-le i))

  pub charge-le : (k ev i : ℕ) → charge F k ev i ≤ 5270400000
  unfolding charge
  charge-le k ev i = cond-le (leb (due (year.product F.terms i) (F.event ev).month) k) (omega (arith, mul-le-mul (daily-le ev (spent F ev i) i) (D-le k)))

  -- all e of an event, and what is allotted of its charges
  pub e-sum : (ev : ℕ) → sum_to registrations (e F ev) ≤ nominated_sum
  e-sum ev = sum_bound registrations nominated_limit (e F ev) (λ i l. e-le ev i)

  pub charged-fits : (k ev : ℕ) → sum_to registrations (charge F k ev) * sum_to registrations (e F ev) < 2 ^ 63
  charged-fits k ev = omega (arith, mul-le-mul (sum_bound registrations 5270400000 (charge F k ev) (λ i l. charge-le k ev i)) (e-sum ev))

  -- a credit, by its limit
  pub credit-le : (k ev i : ℕ) → credit_of F k ev i ≤ 732000000
  unfolding credit_of credit_limit
  credit-le k ev i =
      let h : e F ev i * rate F i / 5 ≤ 2000000000 = omega (arith, mul-le-mul (e-le ev i) (L.rate i)) in
      omega (arith, mul-le-mul h (D-le k))

  -- a rate is at least 1 where a registration of its area has one of its own
  pub rate-some : (i j : ℕ) → year.known F.terms i ≡ true → year.area F.terms i ≡ year.area F.terms j → j < registrations → year.known F.terms j ≡ true → 1 ≤ own F j → 1 ≤ rate F i
  unfolding rate
  rate-some i j here same l there some-rate = rw (here, same) (go (eqb (own F i) 0) refl)
    where
      go : (b : Bool) → eqb (own F i) 0 ≡ b → 1 ≤ cond b (area_rate F (year.area F.terms j)) (own F i)
      go true e = area-rate-some F j l some-rate (L.some j there)
      go false e = let z = eqb-false (own F i) 0 e in omega arith

  -- a test's base, at most the highest rate, its rate, and its charge
  pub worth-le : (p : ℕ → Bool) (s : ℕ)
      → of_seller F s (only p (λ i. year.committed F.terms i * rate F i)) ≤ of_seller F s (only p (year.committed F.terms)) * rate_limit
  unfolding of_seller
  worth-le p s = worth-most registrations F.seller (year.committed F.terms) (rate F) p s rate_limit L.rate

  pub B-le : (p s : ℕ) → B F p s ≤ rate_limit
  unfolding B
  B-le p s = div-le_of_le-mul (of_seller F s (only (stands F p) (year.committed F.terms))) (worth-le (stands F p) s)

  pub raised-le : (p s : ℕ) → raised (B F p s) ≤ 120000
  unfolding raised
  raised-le p s = omega (arith, B-le p s)

  -- by what is committed in it
  pub test-scaled : (k p s : ℕ) → test_charge F k p s * nominated_limit ≤ of_seller F s (only (stands F p) (year.committed F.terms)) * 6324480000
  unfolding test_charge
  test-scaled k p s =
      let a = test_shortfall F p s in
      omega (
        arith,
        div-mul-le_self (a * raised (B F p s) * D F k) 1000,
        mul-le-mul (mul-le-mul (le_refl a) (raised-le p s)) (D-le k),
        shortfall-scaled (stands F p) (result F p) (year.deficit (F.test p).listing) s,
      )

  pub test-le : (k p s : ℕ) → test_charge F k p s ≤ 404766720000
  test-le k p s = omega (arith, test-scaled k p s, committed-le (stands F p) s)
