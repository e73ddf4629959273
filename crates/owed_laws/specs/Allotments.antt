-- The allotment's facts, cited for each allotment of the rules: a seller's shortfalls (u, on-peak and off-peak) and excess (e), an event's charges (credits), and what the LSEs are credited.
use Rattle.std.specs.Prelude.{ℕ, ◌-◌, Bool, ◌≡◌, refl}
use Rattle.std.proofs.Math.Bool.{true, false}
use Rattle.std.proofs.Common.{sym}
use Rattle.std.proofs.Math.Path.{fun_ext}
use Rattle.std.proofs.Math.Dec.{eqb}
use borrow.Author.Tests.{eqb-true}
use Rattle.ids.specs.Ids.{sum_to, keyed}
use Rattle.limits.specs.Limits.{registrations, lses}
use Rattle.allotment.specs.Allot.{Allotted, allotted, share, share-zero}
use Rattle.year.specs.Year as year
use Rattle.owed.specs.Facts.{Facts}
use Rattle.owed.specs.Owed.{share_of, shortfall, short, over, u, off_shortfall, off_short, off_u, charge, excess, e, credit_share, charges, credits, lse}

module _ (F : Facts) where
  -- registrations' shares of their sellers' amounts are, seller by seller, an allotment over the seller's registrations
  shares_of : (weight amount : ℕ → ℕ) (s : ℕ)
      → Allotted registrations (keyed F.seller weight s) (amount s) (keyed F.seller (share_of F weight amount) s)
  unfolding share_of
  shares_of weight amount s =
      rw (fun_ext (λ i. go i (eqb (F.seller i) s) refl)) (allotted registrations (keyed F.seller weight s) (amount s))
    where
      go : (i : ℕ) (b : Bool) → eqb (F.seller i) s ≡ b
          → keyed F.seller (share_of F weight amount) s i ≡ share registrations (keyed F.seller weight s) (amount s) i
      go i true q = rw (q, eqb-true (F.seller i) s q)
      go i false q = rw q (sym (share-zero registrations (keyed F.seller weight s) (amount s) i (rw q)))

  pub u-allotted : (ev s : ℕ) → Allotted registrations (keyed F.seller (short F ev) s) (shortfall F ev s) (keyed F.seller (u F ev) s)
  unfolding u
  u-allotted ev s = shares_of (short F ev) (shortfall F ev) s

  pub off-allotted : (ev s : ℕ) → Allotted registrations (keyed F.seller (off_short F ev) s) (off_shortfall F ev s) (keyed F.seller (off_u F ev) s)
  unfolding off_u
  off-allotted ev s = shares_of (off_short F ev) (off_shortfall F ev) s

  pub e-allotted : (ev s : ℕ) → Allotted registrations (keyed F.seller (over F ev) s) (excess F ev s) (keyed F.seller (e F ev) s)
  unfolding e
  e-allotted ev s = shares_of (over F ev) (excess F ev) s

  pub credit-allotted : (k ev : ℕ) → Allotted registrations (e F ev) (sum_to registrations (charge F k ev)) (credit_share F k ev)
  unfolding credit_share
  credit-allotted k ev = allotted registrations (e F ev) _

  pub lse-allotted : (k : ℕ) → Allotted lses (year.obligation F.terms) (charges F k - credits F k) (lse F k)
  unfolding lse
  lse-allotted k = allotted lses (year.obligation F.terms) _
