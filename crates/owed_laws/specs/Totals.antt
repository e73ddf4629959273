-- Bounds of amounts to date: each fits a statement's 42 bits, and what is allotted over the LSEs fits 64.
use Prim.Native.Nat.{ℕ, ◌*◌, ◌-◌, ◌≤◌, ◌<◌, ◌^◌}
use Rattle.std.specs.Prelude.{Bool, true, false, not, ◌&&◌, cond}
use native.Mathlib.Omega.{arith}
use Rattle.std.proofs.Common.{mul-le-mul, mul-le-mul_right}
use Rattle.ids.specs.Ids.{sum_to, tabulate, only}
use Rattle.ids.specs.Sums.{sum-add, sum-mul, sum-le, sum-swap, sum_mono, sum_one, sum_bound}
use Rattle.ids.specs.Tables.{length-tabulate, get_or-tabulate}
use Rattle.ids.specs.Each.{Each}
use Rattle.limits.specs.Limits.{registrations, parties, sellers, lses, test_groups, nominated_limit, obligation_limit}
use Rattle.allotment.specs.Allot.{one-share}
use Rattle.year.specs.Sound.{SoundAmounts, Fits42}
use Rattle.year.specs.Year as year
use Rattle.owed.specs.Facts.{Facts}
use Rattle.owed.specs.Owed.{of_seller, dispatched, charge, credit_of, stands, test_charge, compliance, test, credit, charges, credits, lse, amounts}
use Rattle.owed_laws.specs.Limits.{Limits}
use Rattle.owed_laws.specs.Sellers.{of_seller-mono, of_seller-le, of_seller-sum, sellers-sum, sellers-events}
use Rattle.owed_laws.specs.Allotments.{lse-allotted}
use Rattle.owed_laws.specs.Cap.{charges-cap}
use Rattle.owed_laws.specs.Balance.{sellers-credits}
use Rattle.owed_laws.specs.Bounds.{D-le, cap-le, test-scaled}

pub obligations-le : {F : Facts} → Limits F → sum_to lses (year.obligation F.terms) ≤ 16000000
obligations-le {F} L = sum_bound lses obligation_limit (year.obligation F.terms) (λ j l. L.obligation j)

module _ {F : Facts} (L : Limits F) (k : ℕ) where
  -- compliance along the first m events: a registration's, a seller's, all sellers'
  registration-most : (m i : ℕ) → sum_to m (λ ev. charge F k ev i) ≤ 5270400000
  registration-most m i = omega (arith, charges-cap F k i m, mul-le-mul (cap-le L i) (D-le L k))

  pub compliance-most : (m s : ℕ) → sum_to m (λ ev. of_seller F s (charge F k ev)) ≤ 337305600000
  compliance-most m s = rw (of_seller-sum F s m (charge F k)) (of_seller-le F s 5270400000 (registration-most m))

  pub sellers-compliance : (m : ℕ) → sum_to sellers (λ s. sum_to m (λ ev. of_seller F s (charge F k ev))) ≤ 337305600000
  sellers-compliance m =
      rw (sellers-events L m (charge F k), sum-swap m registrations (charge F k))
      (sum_bound registrations 5270400000 (λ i. sum_to m (λ ev. charge F k ev i)) (λ i l. registration-most m i))

  -- credits along them
  pub credit-most : (m s : ℕ) → s < sellers → sum_to m (λ ev. of_seller F s (credit_of F k ev)) ≤ 337305600000
  credit-most m s l =
      let f : ℕ → ℕ = λ s. sum_to m (λ ev. of_seller F s (credit_of F k ev)) in
      omega (arith, sum_one {n = sellers} {i = s} f l, sellers-credits L k m, sellers-compliance m)

  -- no registration is in two tests, so what all tests count of a seller's commitments is at most all of them
  stands-once : (s : ℕ) → sum_to test_groups (λ p. of_seller F s (only (stands F p) (year.committed F.terms))) ≤ of_seller F s (year.committed F.terms)
  stands-once s =
      rw (of_seller-sum F s test_groups (λ p. only (stands F p) (year.committed F.terms)))
      (of_seller-mono F s (λ i l.
      omega (
        arith,
        sum-le test_groups {f = λ p. only (stands F p) (year.committed F.terms) i} {g = λ p. cond (year.listed (F.test p).listing i) 1 0 * year.committed F.terms i}
            (λ p m. go (year.listed (F.test p).listing i) (not (dispatched F i)) (year.committed F.terms i)),
        sum-mul test_groups (λ p. cond (year.listed (F.test p).listing i) 1 0) (year.committed F.terms i),
        mul-le-mul_right (year.committed F.terms i) (L.once i l),
      )))
    where
      go : (a b : Bool) (c : ℕ) → cond (a && b) c 0 ≤ cond a 1 0 * c
      go true true c = omega arith
      go true false c = omega arith
      go false b c = omega arith

  tests-scaled : (s : ℕ) → test F k s * nominated_limit ≤ of_seller F s (year.committed F.terms) * 6324480000
  unfolding test
  tests-scaled s =
      let c : ℕ → ℕ = λ p. of_seller F s (only (stands F p) (year.committed F.terms)) in
      omega (
        arith,
        sum-mul test_groups (λ p. test_charge F k p s) nominated_limit,
        sum-le test_groups {f = λ p. test_charge F k p s * nominated_limit} {g = λ p. c p * 6324480000} (λ p l. test-scaled L k p s),
        sum-mul test_groups c 6324480000,
        stands-once s,
      )

  -- a seller's test charges of the first m places, and all sellers'
  pub test-most : (m s : ℕ) → m ≤ test_groups → sum_to m (λ p. test_charge F k p s) ≤ 404766720000
  unfolding test
  test-most m s l =
      omega (arith, sum_mono (λ p. test_charge F k p s) l, tests-scaled s, of_seller-le F s nominated_limit L.committed)

  sellers-test : sum_to sellers (test F k) ≤ 404766720000
  sellers-test =
      let c : ℕ → ℕ = λ s. of_seller F s (year.committed F.terms) in
      omega (
        arith,
        sum-mul sellers (test F k) nominated_limit,
        sum-le sellers {f = λ s. test F k s * nominated_limit} {g = λ s. c s * 6324480000} (λ s l. tests-scaled s),
        sum-mul sellers c 6324480000,
        sellers-sum L (year.committed F.terms),
        sum_bound registrations nominated_limit (year.committed F.terms) (λ i l. L.committed i),
      )

  -- all charges
  pub charges-le : charges F k ≤ 742072320000
  unfolding charges compliance
  charges-le = omega (arith, sum-add sellers (compliance F k) (test F k), sellers-compliance F.events, sellers-test)

  lse-le : (j : ℕ) → j < lses → lse F k j ≤ 742072320000
  lse-le j l = omega (arith, one-share (lse-allotted F k) l, charges-le)

  -- a table of sixteen amounts
  fits : (f : ℕ → ℕ) → ((i : ℕ) → i < parties → f i ≤ 742072320000) → Each Fits42 0 parties (tabulate parties f)
  fits f h =
      record { long = length-tabulate f parties; at = λ i l. rw (get_or-tabulate f parties i 0 l) (omega (arith, h i l)) }

  pub sound-amounts : SoundAmounts (amounts F k)
  unfolding amounts compliance test credit
  sound-amounts =
      record {
        compliance = fits (compliance F k) (λ s l. omega (arith, compliance-most F.events s));
        test = fits (test F k) (λ s l. omega (arith, test-most test_groups s (omega arith)));
        credit = fits (credit F k) (λ s l. omega (arith, credit-most F.events s l));
        lse = fits (lse F k) lse-le;
      }

  -- what is left for the LSEs, allotted
  pub lse-fits : (charges F k - credits F k) * sum_to lses (year.obligation F.terms) < 2 ^ 64
  lse-fits =
      let h : charges F k - credits F k ≤ 742072320000 = omega (arith, charges-le) in
      omega (arith, mul-le-mul h (obligations-le L))
