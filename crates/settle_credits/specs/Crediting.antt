-- An event's credits entry by entry.
use Rattle.std.specs.Prelude.{ℕ, ◌+◌, ◌*◌, ◌/◌, ◌≤◌, ◌<◌, min, ◌≡◌, true, false, List}
use Rattle.std.proofs.Math.Path.{refl, sym}
use Rattle.std.proofs.Common.{◌∙◌, arith, lit<}
use Rattle.limits.specs.Limits.{registrations, sellers, event_limit}
use Rattle.allotment.specs.declared.Allotment.{Allotment}
use Rattle.allotment.specs.declared.Share.{Share}
use Rattle.allotment.specs.Stepper.{Carried, Asks, Gives, Before, before-first, share-asks, share-value, share-next, share-skip, divisions-made}
use Rattle.settle_charges.specs.Charging.{Given, given-aside}
use Rattle.ids.specs.Ids.{at, sum_to}
use Rattle.ids.specs.Sums.{sum_step, sum_same, sum_bound}
use Rattle.year.specs.Year as year
use Rattle.owed.specs.Facts.{Facts}
use Rattle.owed.specs.Divisions.{credit_divisions}
use Rattle.owed.specs.Owed as owed
use Rattle.owed.specs.Owed.{D, of_seller, credit_share, credit_limit, credit_of}
use Rattle.owed_laws.specs.Limits.{Limits}
use Rattle.owed_laws.specs.Sellers.{of_seller-le}
use Rattle.owed_laws.specs.Bounds.{charged-fits, credit-le}
use Rattle.owed_laws.specs.Unlisted.{e-unlisted, credit-unlisted}
use Rattle.settle_table.specs.Places.{credit_row, e_row}
use Rattle.settle_table.specs.Rows.{Stored, Aside, Row, Grown, none, aside_none, aside-of, aside-more, row_same, grown-first, grown-none, grown-more, grown-most}

-- the sum of all e
pub excesses : {F : Facts} {ev : ℕ} {w : List ℕ} → Given F ev w → sum_to registrations (λ i. at w (e_row + i)) ≡ sum_to registrations (owed.e F ev)
excesses g = sum_same registrations (λ i l. g.shares.e.is i l)

-- a seller's credits of the first m events
unfoldable pub credit_by : Facts → ℕ → ℕ → ℕ → ℕ
credit_by F k m s = sum_to m (λ ev. of_seller F s (credit_of F k ev))

pub credit-first : (F : Facts) (k : ℕ) {w : List ℕ} → Row w credit_row sellers none → Row w credit_row sellers (credit_by F k 0)
unfolding credit_by sum_to
credit-first F k r = row_same r (λ j l. refl)

pub credit-all : (F : Facts) (k : ℕ) {w : List ℕ} → Row w credit_row sellers (credit_by F k F.events) → Row w credit_row sellers (owed.credit F k)
unfolding credit_by owed.credit
credit-all F k r = row_same r (λ j l. refl)

by_le : {F : Facts} → Limits F → (k m s : ℕ) → m ≤ event_limit → credit_by F k m s ≤ 749568000000
unfolding credit_by
by_le {F} L k m s l = omega (arith, sum_bound m 46848000000 _ (λ ev q. of_seller-le F s 732000000 (credit-le L k ev)))

-- before entry i, with the allotment of the event's charges; w₀ is the table before the event's credits
pub record Crediting (F : Facts) (k ev i : ℕ) (w₀ w : List ℕ) (a : Allotment) : Type 0 where
  pub upto : i ≤ registrations
  pub given : Given F ev w
  pub aside : Aside credit_row sellers w₀ w
  pub before : Before registrations (year.listed (F.event ev).listing) (owed.e F ev) (sum_to registrations (owed.charge F k ev)) i a
  pub credit : Grown w credit_row sellers (credit_by F k ev) F.seller (credit_of F k ev) i

pub crediting-first : {F : Facts} {k ev b t : ℕ} {w : List ℕ} {a : Allotment} → Given F ev w → Row w credit_row sellers (credit_by F k ev)
    → b ≡ sum_to registrations (owed.charge F k ev) → t ≡ sum_to registrations (λ i. at w (e_row + i)) → Carried b t 0 0 a → Crediting F k ev 0 w w a
crediting-first {F} {k} {ev} g r p q c =
    record {
      upto = omega arith;
      given = g;
      aside = aside_none;
      before = before-first p (q ∙ excesses g) c;
      credit = grown-first F.seller (credit_of F k ev) r;
    }

module _ {F : Facts} {k ev i : ℕ} {w₀ w : List ℕ} {a : Allotment} (h : Crediting F k ev i w₀ w a) where
  -- an entry that is not listed
  pub crediting-none : i < registrations → year.listed (F.event ev).listing i ≡ false → Crediting F k ev (i + 1) w₀ w a
  crediting-none l off =
      record {
        upto = omega arith;
        given = h.given;
        aside = h.aside;
        before = share-skip h.before off (e-unlisted F ev i off);
        credit = grown-none h.credit (credit-unlisted F ev i off k);
      }

  pub credit-most : Limits F → ev < event_limit → (s : ℕ) → s < sellers → at w (credit_row + s) ≤ 796416000000
  credit-most L q s m = grown-most h.credit 749568000000 732000000 h.upto (λ j x. by_le L k ev j (omega arith)) (λ j x. credit-le L k ev j) s m

  pub asks : i < registrations → Limits F → Asks a (owed.e F ev i)
  asks l L = share-asks h.before l (lit< tt) refl (omega (arith, charged-fits L k ev))

  -- a listed entry: its share of the charges, and its credit
  module _ {r : Share} (v : Gives a (owed.e F ev i) r) where
    pub credit-is : {days m c : ℕ} → days ≡ D F k → m ≡ owed.e F ev i * owed.rate F i / 5 * days / 1000 → c ≡ min r.value m → c ≡ credit_of F k ev i
    unfolding credit_of credit_share credit_limit
    credit-is f z d = d ∙ rw (share-value h.before refl v, z, f)

    pub crediting-more : {c : ℕ} {y : List ℕ} → i < registrations → year.listed (F.event ev).listing i ≡ true → F.seller i < sellers → c ≡ credit_of F k ev i → Stored (credit_row + F.seller i) (at w (credit_row + F.seller i) + c) w y → Crediting F k ev (i + 1) w₀ y r.next
    crediting-more l on b d t =
        record {
          upto = omega arith;
          given = given-aside h.given (aside-of t) (omega arith) (omega arith);
          aside = aside-more h.aside t (omega arith) (omega arith);
          before = share-next h.before refl on v;
          credit = grown-more h.credit t b refl d;
        }

  pub crediting-all : i ≡ registrations → Row w credit_row sellers (credit_by F k (ev + 1))
  unfolding credit_by of_seller
  crediting-all q = row_same (rw q at h.credit.row) (λ s m. sym (sum_step ev (λ d. of_seller F s (credit_of F k d))))

  pub crediting-divisions : i ≡ registrations → a.divisions ≡ credit_divisions F ev
  unfolding credit_divisions
  crediting-divisions q = divisions-made h.before q
