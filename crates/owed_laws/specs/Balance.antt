-- The balance at any month: an event's credits are shares of its charges, so all credits are at most all charges, and the LSEs are credited the rest.
use Rattle.std.specs.Prelude.{ℕ, ◌+◌, ◌≤◌, ◌<◌, ◌≡◌}
use Rattle.std.proofs.Common.{arith, le_trans}
use Rattle.std.proofs.Math.Nat.{min-le_left}
use Rattle.ids.specs.Ids.{sum_to}
use Rattle.ids.specs.Sums.{sum-add, sum-le}
use Rattle.limits.specs.Limits.{registrations, sellers, lses}
use Rattle.year.specs.Year as year
use Rattle.owed.specs.Facts.{Facts}
use Rattle.owed.specs.Owed.{of_seller, charge, credit_share, credit_limit, credit_of, compliance, credit, test, charges, credits, lse}
use Rattle.owed_laws.specs.Limits.{Limits}
use Rattle.owed_laws.specs.Sellers.{sellers-events}
use Rattle.owed_laws.specs.Allotments.{credit-allotted, lse-allotted}

-- an event's credits are at most its charges
pub event-credits : (F : Facts) (k ev : ℕ) → sum_to registrations (credit_of F k ev) ≤ sum_to registrations (charge F k ev)
unfolding credit_of
event-credits F k ev =
    le_trans (sum-le registrations (λ i l. min-le_left (credit_share F k ev i) (credit_limit F k ev i))) (credit-allotted F k ev).within

module _ {F : Facts} (L : Limits F) (k : ℕ) where
  -- and so those of all sellers along the first m events
  pub sellers-credits : (m : ℕ)
      → sum_to sellers (λ s. sum_to m (λ ev. of_seller F s (credit_of F k ev))) ≤ sum_to sellers (λ s. sum_to m (λ ev. of_seller F s (charge F k ev)))
  sellers-credits m =
      rw (sellers-events L m (credit_of F k), sellers-events L m (charge F k)) (sum-le m (λ ev l. event-credits F k ev))

  pub credits-le-charges : credits F k ≤ charges F k
  unfolding charges credits credit compliance
  credits-le-charges = omega (arith, sellers-credits F.events, sum-add sellers (compliance F k) (test F k))

  pub balance : 0 < sum_to lses (year.obligation F.terms) → charges F k ≡ credits F k + sum_to lses (lse F k)
  balance l = omega (arith, credits-le-charges, (lse-allotted F k).all l)
