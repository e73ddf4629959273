-- Sums over a seller's registrations: their laws, and the sums of what entries are short and over.
use Prim.Native.Nat.{ℕ, ◌+◌, ◌*◌, ◌-◌, ◌≤◌, ◌<◌}
use Rattle.std.specs.Prelude.{Bool, ◌≡◌, eqb}
use Rattle.std.proofs.Math.Bool.{true, false, cond}
use Rattle.std.proofs.Math.Path.{refl, sym}
use Rattle.std.proofs.Common.{◌∙◌, zero-mul}
use native.Mathlib.Omega.{arith}
use Rattle.ids.specs.Ids.{sum_to, only, keyed}
use Rattle.ids.specs.Sums.{sum-add, sum-mul, sum_same, sum-le, sum-zero, sum-swap, sum-at, sum_bound}
use Rattle.ids.specs.Tests.{cond-le}
use Rattle.limits.specs.Limits.{registrations, sellers}
use Rattle.year.specs.Year as year
use Rattle.owed.specs.Facts.{Facts}
use Rattle.owed.specs.Owed.{of_seller, short_of, over_of, short, over, excess}
use Rattle.owed_laws.specs.Limits.{Limits}

module _ (F : Facts) (s : ℕ) where
  pub of_seller-same : {f g : ℕ → ℕ} → ((i : ℕ) → i < registrations → f i ≡ g i) → of_seller F s f ≡ of_seller F s g
  unfolding of_seller
  of_seller-same {f} {g} h = sum_same registrations (λ i l. go (eqb (F.seller i) s) (h i l))
    where
      go : (b : Bool) {x z : ℕ} → x ≡ z → cond b x 0 ≡ cond b z 0
      go b e = rw e

  pub of_seller-mono : {f g : ℕ → ℕ} → ((i : ℕ) → i < registrations → f i ≤ g i) → of_seller F s f ≤ of_seller F s g
  unfolding of_seller
  of_seller-mono {f} {g} h = sum-le registrations (λ i l. go (eqb (F.seller i) s) (h i l))
    where
      go : (b : Bool) {x z : ℕ} → x ≤ z → cond b x 0 ≤ cond b z 0
      go true e = e
      go false e = omega arith

  pub of_seller-le : (b : ℕ) {f : ℕ → ℕ} → ((i : ℕ) → f i ≤ b) → of_seller F s f ≤ registrations * b
  unfolding of_seller
  of_seller-le b {f} h = sum_bound registrations b (keyed F.seller f s) (λ i l. cond-le (eqb (F.seller i) s) (h i))

  pub of_seller-add : (f g : ℕ → ℕ) → of_seller F s (λ i. f i + g i) ≡ of_seller F s f + of_seller F s g
  unfolding of_seller
  of_seller-add f g =
      sum_same registrations (λ i l. go (eqb (F.seller i) s) (f i) (g i)) ∙ sum-add registrations (keyed F.seller f s) (keyed F.seller g s)
    where
      go : (b : Bool) (x z : ℕ) → cond b (x + z) 0 ≡ cond b x 0 + cond b z 0
      go true x z = refl
      go false x z = refl

  pub of_seller-mul : (f : ℕ → ℕ) (c : ℕ) → of_seller F s (λ i. f i * c) ≡ of_seller F s f * c
  unfolding of_seller
  of_seller-mul f c = sum_same registrations (λ i l. go (eqb (F.seller i) s) (f i)) ∙ sum-mul registrations (keyed F.seller f s) c
    where
      go : (b : Bool) (x : ℕ) → cond b (x * c) 0 ≡ cond b x 0 * c
      go true x = refl
      go false x = sym (zero-mul c)

  -- along events or tests
  pub of_seller-sum : (m : ℕ) (f : ℕ → ℕ → ℕ) → sum_to m (λ ev. of_seller F s (f ev)) ≡ of_seller F s (λ i. sum_to m (λ ev. f ev i))
  unfolding of_seller
  of_seller-sum m f =
      sum-swap m registrations (λ ev i. keyed F.seller (f ev) s i)
      ∙ sum_same registrations (λ i l. go (eqb (F.seller i) s) (λ ev. f ev i))
    where
      go : (b : Bool) (g : ℕ → ℕ) → sum_to m (λ ev. cond b (g ev) 0) ≡ cond b (sum_to m g) 0
      go true g = refl
      go false g = sum-zero m (λ ev l. refl)

  -- of the entries that are picked, what is committed and what is given differ as what is lacking and what is given more
  module _ (p : ℕ → Bool) (v : ℕ → ℕ) where
    sums-differ : of_seller F s (only p (year.committed F.terms)) + of_seller F s (over_of F p v) ≡ of_seller F s (only p v) + of_seller F s (short_of F p v)
    sums-differ =
        sym (of_seller-add (only p (year.committed F.terms)) (over_of F p v))
        ∙ of_seller-same (λ i l. go (p i) (year.committed F.terms i) (v i))
        ∙ of_seller-add (only p v) (short_of F p v)
      where
        go : (b : Bool) (c v : ℕ) → cond b c 0 + cond b (v - c) 0 ≡ cond b v 0 + cond b (c - v) 0
        go false c v = refl
        go true c v = omega arith

    -- so step 1's net and the excess come from these two
    pub net-is : of_seller F s (only p (year.committed F.terms)) - of_seller F s (only p v) ≡ of_seller F s (short_of F p v) - of_seller F s (over_of F p v)
    net-is = omega (arith, sums-differ)

  pub excess-is : (ev : ℕ) → excess F ev s ≡ of_seller F s (over F ev) - of_seller F s (short F ev)
  unfolding excess
  excess-is ev = omega (arith, sums-differ (year.listed (F.event ev).listing) (year.reduction (F.event ev).listing))

-- each registration is one seller's
module _ {F : Facts} (L : Limits F) where
  pub sellers-sum : (f : ℕ → ℕ) → sum_to sellers (λ s. of_seller F s f) ≡ sum_to registrations f
  unfolding of_seller
  sellers-sum f =
      sum-swap sellers registrations (λ s i. keyed F.seller f s i)
      ∙ sum_same registrations (λ i l. sum-at sellers (F.seller i) (f i) (L.seller i))

  -- along events
  pub sellers-events : (m : ℕ) (f : ℕ → ℕ → ℕ)
      → sum_to sellers (λ s. sum_to m (λ ev. of_seller F s (f ev))) ≡ sum_to m (λ ev. sum_to registrations (f ev))
  sellers-events m f =
      sum-swap sellers m (λ s ev. of_seller F s (f ev)) ∙ sum_same m (λ ev l. sellers-sum (f ev))
