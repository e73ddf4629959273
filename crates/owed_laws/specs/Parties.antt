-- Who is no party owes nothing and gets nothing: a seller with no registration, and an LSE with no obligation.
use Rattle.std.specs.Prelude.{ℕ, ◌-◌, ◌<◌, Bool}
use Rattle.std.proofs.Math.Bool.{true, false, cond}
use Rattle.std.proofs.Math.Path.{◌≡◌, refl}
use Rattle.std.proofs.Common.{arith}
use Rattle.std.proofs.Math.Nat.{zero-mul}
use Rattle.std.proofs.Math.Dec.{eqb}
use Rattle.ids.specs.Ids.{only}
use Rattle.ids.specs.Sums.{sum-zero}
use Rattle.units.specs.Units.{convert-zero}
use Rattle.limits.specs.Limits.{registrations, lses, test_groups}
use Rattle.allotment.specs.Allot.{share-zero}
use Rattle.year.specs.Year as year
use Rattle.owed.specs.Facts.{Facts}
use Rattle.owed.specs.Owed.{D, raised, unforced, of_seller, shortfall_over, stands, result, test_shortfall, B, test_charge, compliance, test, credit, charges, credits, lse}
use Rattle.owed_laws.specs.Unlisted.{u-unlisted, off-unlisted, charge-none, credit-unlisted}

-- every listed registration is known
pub record Known (F : Facts) : Type 0 where
  pub events : (ev : ℕ) → ev < F.events → (i : ℕ) → i < registrations → year.listed (F.event ev).listing i ≡ true → year.known F.terms i ≡ true
  pub tests : (p : ℕ) → p < test_groups → (i : ℕ) → i < registrations → year.listed (F.test p).listing i ≡ true → year.known F.terms i ≡ true

-- so one that is not known is not listed
unlisted : (b c : Bool) → (b ≡ true → c ≡ true) → c ≡ false → b ≡ false
unlisted false c h e = refl
unlisted true c h e = absurd (let z : ◌≡◌ {A = ℕ} 0 1 = cc (h refl) in omega arith)

module _ {F : Facts} (K : Known F) (s : ℕ) (none : (i : ℕ) → i < registrations → year.known F.terms i ≡ true → eqb (F.seller i) s ≡ false) where
  seller-none : {f : ℕ → ℕ} → ((i : ℕ) → i < registrations → year.known F.terms i ≡ false → f i ≡ 0) → of_seller F s f ≡ 0
  unfolding of_seller
  seller-none {f} h = sum-zero registrations (λ i l. go i (year.known F.terms i) (none i l) (h i l) (eqb (F.seller i) s) refl)
    where
      go : (i : ℕ) (b : Bool) → (b ≡ true → eqb (F.seller i) s ≡ false) → (b ≡ false → f i ≡ 0) → (c : Bool) → eqb (F.seller i) s ≡ c → cond c (f i) 0 ≡ 0
      go i b n z false q = refl
      go i false n z true q = z refl
      go i true n z true q = absurd (let z : ◌≡◌ {A = ℕ} 0 1 = cc (n refl) in omega arith)

  pub compliance-none : (k : ℕ) → compliance F k s ≡ 0
  unfolding compliance
  compliance-none k =
      sum-zero F.events (λ ev l. seller-none (λ i m q. let off = unlisted (year.listed (F.event ev).listing i) (year.known F.terms i) (K.events ev l i m) q in charge-none F ev i (u-unlisted F ev i off) (off-unlisted F ev i off) k))

  pub credit-none : (k : ℕ) → credit F k s ≡ 0
  unfolding credit
  credit-none k =
      sum-zero F.events (λ ev l. seller-none (λ i m q. credit-unlisted F ev i (unlisted (year.listed (F.event ev).listing i) (year.known F.terms i) (K.events ev l i m) q) k))

  stands-none : (p : ℕ) → p < test_groups → of_seller F s (only (stands F p) (year.committed F.terms)) ≡ 0
  stands-none p l = seller-none (λ i m q. rw (unlisted (year.listed (F.test p).listing i) (year.known F.terms i) (K.tests p l i m) q))

  pub test-none : (k : ℕ) → test F k s ≡ 0
  unfolding test test_charge shortfall_over unforced
  test-none k =
      sum-zero test_groups (λ p l.
      let net : of_seller F s (only (stands F p) (year.committed F.terms)) - of_seller F s (only (stands F p) (result F p)) ≡ 0 = omega (arith, stands-none p l) in
      let short : test_shortfall F p s ≡ 0 = rw net (omega (arith, convert-zero F.terms.factor F.terms.requirement)) in
      rw (short, zero-mul (raised (B F p s)), zero-mul (D F k)))

pub lse-none : (F : Facts) (k j : ℕ) → year.obligation F.terms j ≡ 0 → lse F k j ≡ 0
unfolding lse
lse-none F k j z = share-zero lses (year.obligation F.terms) (charges F k - credits F k) j z
