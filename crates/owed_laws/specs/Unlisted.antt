-- A registration that an event does not list has no share in it and gets no credit, and one that is not measured off-peak no off-peak share; one without a share is not charged.
use Rattle.std.specs.Prelude.{ℕ, ◌*◌, ◌/◌, ◌≤◌, max, false, cond, ◌≡◌, eqb, leb}
use Rattle.std.proofs.Math.Bool.{and-false}
use native.Mathlib.Omega.{arith}
use Rattle.std.proofs.Math.Nat.{zero-mul, zero-div, zero-min}
use Rattle.ids.specs.Ids.{keyed}
use Rattle.ids.specs.Tests.{cond-le}
use Rattle.limits.specs.Limits.{registrations}
use Rattle.calendar.specs.Calendar.{off_peak, due}
use Rattle.allotment.specs.Allot.{share-zero}
use Rattle.year.specs.Year as year
use Rattle.owed.specs.Facts.{Facts}
use Rattle.owed.specs.Owed.{one_or_three, before_cap, D, rate, share_of, dispatch_count, short, over, shortfall, excess, u, measured, off_short, off_shortfall, off_u, asked, daily, spent, charge, e, credit_share, credit_limit, credit_of}

-- a weight of 0
share-none : (F : Facts) (weight amount : ℕ → ℕ) (i : ℕ) → weight i ≡ 0 → share_of F weight amount i ≡ 0
unfolding share_of
share-none F weight amount i z =
    share-zero registrations (keyed F.seller weight (F.seller i)) (amount (F.seller i)) i
    (omega (arith, cond-le (eqb (F.seller i) (F.seller i)) {x = weight i} {b = 0} (omega arith)))

-- one that is not measured off-peak has no off-peak share
pub off-none : (F : Facts) (ev i : ℕ) → measured F ev i ≡ false → off_u F ev i ≡ 0
unfolding off_u
off-none F ev i e = share-none F (off_short F ev) (off_shortfall F ev) i (rw e)

module _ (F : Facts) (ev i : ℕ) (no : year.listed (F.event ev).listing i ≡ false) where
  pub u-unlisted : u F ev i ≡ 0
  unfolding u
  u-unlisted = share-none F (short F ev) (shortfall F ev) i (rw no)

  pub off-unlisted : off_u F ev i ≡ 0
  unfolding measured
  off-unlisted = off-none F ev i (rw no (and-false (F.event ev).dual))

  pub e-unlisted : e F ev i ≡ 0
  unfolding e
  e-unlisted = share-none F (over F ev) (excess F ev) i (rw no)

  pub credit-unlisted : (k : ℕ) → credit_of F k ev i ≡ 0
  unfolding credit_of credit_share
  credit-unlisted k = rw (share-zero registrations (e F ev) _ i e-unlisted) (zero-min (credit_limit F k ev i))

-- one without a share of its seller's shortfall is not charged
nothing-asked : (period n q : ℕ) → before_cap period n 0 q ≡ 0
unfolding before_cap
nothing-asked period n q = rw (zero-mul q) (zero-div (cond (one_or_three period) (max n 2) 52))

module _ (F : Facts) (ev i : ℕ) (none : u F ev i ≡ 0) (off : off_u F ev i ≡ 0) where
  pub daily-none : (x : ℕ) → daily F ev x i ≡ 0
  unfolding asked daily
  daily-none x =
      let z : before_cap (F.event ev).period (dispatch_count F i) (u F ev i) (rate F i) ≡ 0 = rw none (nothing-asked (F.event ev).period (dispatch_count F i) (rate F i)) in
      let y : before_cap off_peak (dispatch_count F i) (off_u F ev i) (rate F i) ≡ 0 = rw off (nothing-asked off_peak (dispatch_count F i) (rate F i)) in
      let le : daily F ev x i ≤ 0 = cond-le (year.listed (F.event ev).listing i) (omega arith) in
      omega arith

  pub charge-none : (k : ℕ) → charge F k ev i ≡ 0
  unfolding charge
  charge-none k =
      let z : daily F ev (spent F ev i) i * D F k / 1000 ≡ 0 = rw (daily-none (spent F ev i), zero-mul (D F k)) in
      let le : charge F k ev i ≤ 0 = cond-le (leb (due (year.product F.terms i) (F.event ev).month) k) (omega arith) in
      omega arith
