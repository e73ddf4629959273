-- An event's charges entry by entry.
use Rattle.std.specs.Prelude.{ℕ, ◌+◌, ◌-◌, ◌*◌, ◌/◌, ◌≤◌, ◌<◌, ◌≡◌, refl, Bool, true, false, not, ◌||◌, cond, List, eqb, leb}
use Rattle.std.proofs.Math.Path.{sym}
use Rattle.std.proofs.Common.{◌∙◌, true≢false, arith, add-one, eq-eqb, eqb-true}
use Rattle.limits.specs.Limits.{registrations, sellers, event_limit}
use Rattle.calendar.specs.Calendar.{due}
use Rattle.ids.specs.Ids.{at, sum_to}
use Rattle.ids.specs.Sums.{sum_step, sum_bound}
use Rattle.year.specs.Year as year
use Rattle.owed.specs.Facts.{Facts}
use Rattle.owed.specs.Owed as owed
use Rattle.owed.specs.Owed.{one_or_three, D, of_seller, before_cap}
use Rattle.owed_laws.specs.Limits.{Limits}
use Rattle.owed_laws.specs.Sellers.{of_seller-le}
use Rattle.owed_laws.specs.Bounds.{charge-le}
use Rattle.owed_laws.specs.Unlisted.{u-unlisted, off-unlisted, daily-none, charge-none}
use Rattle.settle_shortfalls.specs.Sharing.{Shares, shares-aside}
use Rattle.settle_table.specs.Columns.{Columns, columns-aside}
use Rattle.settle_table.specs.Places.{dispatch_count_row, spent_row, compliance_row, credit_row, short_row, off_u_row}
use Rattle.settle_table.specs.Rows.{Stored, Aside, Row, Renewed, Grown, none, aside_none, aside_then, aside-more, row-aside, row_same, renewed-first, renewed-kept, renewed-next, renewed-more, renewed-none, grown-first, grown-kept, grown-none, grown-more, grown-most}
use Rattle.settle_charges.specs.declared.prices.Line.{Line}
use Rattle.settle_charges.specs.Pricing.{line_at, daily_of}

-- what an event's charges are made of: the terms, n, and the shares of its entries, off-peak too
pub record Given (F : Facts) (ev : ℕ) (w : List ℕ) : Type 0 where
  pub columns : Columns F registrations w
  pub dispatch_count : Row w dispatch_count_row registrations (owed.dispatch_count F)
  pub shares : Shares F ev w
  pub off : Row w off_u_row registrations (owed.off_u F ev)

-- the rows that its charges and credits are written to lie apart
pub given-aside : {F : Facts} {ev p n : ℕ} {w v : List ℕ} → Given F ev w → Aside p n w v → spent_row ≤ p → p + n ≤ short_row → Given F ev v
given-aside g a b d =
    record {
      columns = columns-aside g.columns a (omega arith) (omega arith);
      dispatch_count = row-aside g.dispatch_count a (λ j l x y. omega arith);
      shares = shares-aside g.shares a (λ j l m x y. omega arith);
      off = row-aside g.off a (λ j l x y. omega arith);
    }

-- registration i as the rules have it, where t is spent of its cap
abbrev pub line_of : Facts → ℕ → ℕ → ℕ → Line
line_of F ev i t =
    record { seller = F.seller i; product = year.product F.terms i; n = owed.dispatch_count F i; rate = owed.rate F i; cap = owed.cap F i; spent = t; u = record { 0 = owed.u F ev i }; off = record { 0 = owed.off_u F ev i }; e = record { 0 = owed.e F ev i } }

pub line-is : {F : Facts} {ev i t : ℕ} {w : List ℕ} → Given F ev w → i < registrations → at w (spent_row + i) ≡ t → line_at w i ≡ line_of F ev i t
line-is {i = i} g l e =
    let c = g.columns in
    λ j. record { seller = c.seller.is i l j; product = c.product.is i l j; n = g.dispatch_count.is i l j; rate = c.rate.is i l j; cap = c.cap.is i l j; spent = e j; u = record { 0 = g.shares.u.is i l j }; off = record { 0 = g.off.is i l j }; e = record { 0 = g.shares.e.is i l j } }

-- a seller's charges of the first m events
unfoldable pub compliance_by : Facts → ℕ → ℕ → ℕ → ℕ
compliance_by F k m s = sum_to m (λ ev. of_seller F s (owed.charge F k ev))

-- what the first m events took of the caps, and the sellers' charges
pub record Billed (F : Facts) (k m : ℕ) (w : List ℕ) : Type 0 where
  pub spent : Row w spent_row registrations (owed.spent F m)
  pub compliance : Row w compliance_row sellers (compliance_by F k m)

pub billed-first : (F : Facts) (k : ℕ) {w : List ℕ} → Row w spent_row registrations none → Row w compliance_row sellers none → Billed F k 0 w
unfolding owed.spent compliance_by sum_to
billed-first F k a b = record { spent = row_same a (λ j l. refl); compliance = row_same b (λ j l. refl) }

pub billed-all : {F : Facts} {k : ℕ} {w : List ℕ} → Billed F k F.events w → Row w compliance_row sellers (owed.compliance F k)
unfolding owed.compliance compliance_by
billed-all h = row_same h.compliance (λ j l. refl)

compliance-le : {F : Facts} → Limits F → (k m s : ℕ) → m ≤ event_limit → compliance_by F k m s ≤ 5396889600000
unfolding compliance_by
compliance-le {F} L k m s l = omega (arith, sum_bound m 337305600000 _ (λ ev q. of_seller-le F s 5270400000 (charge-le L k ev)))

-- before entry i, with charges of sum `all` so far; w₀ is the table before the event
pub record Charging (F : Facts) (k ev i : ℕ) (w₀ w : List ℕ) (all : ℕ) : Type 0 where
  pub upto : i ≤ registrations
  pub given : Given F ev w
  pub aside : Aside spent_row (credit_row - spent_row) w₀ w
  pub spent : Renewed w spent_row registrations (owed.spent F (ev + 1)) (owed.spent F ev) i
  pub compliance : Grown w compliance_row sellers (compliance_by F k ev) F.seller (owed.charge F k ev) i
  pub sum : all ≡ sum_to i (owed.charge F k ev)

pub charging-first : {F : Facts} {k ev : ℕ} {w : List ℕ} → Given F ev w → Billed F k ev w → Charging F k ev 0 w w 0
unfolding sum_to
charging-first {F} {k} {ev} g h =
    record {
      upto = omega arith;
      given = g;
      aside = aside_none;
      spent = renewed-first (owed.spent F (ev + 1)) h.spent;
      compliance = grown-first F.seller (owed.charge F k ev) h.compliance;
      sum = refl;
    }

spent-step : (F : Facts) (ev i : ℕ) → owed.spent F (ev + 1) i ≡ owed.spent F ev i + owed.daily F ev (owed.spent F ev i) i
unfolding owed.spent
spent-step F ev i = rw (add-one ev)

-- a test of two shares
any-either : (a b : Bool) → (not a || not b) ≡ true → (a ≡ true) × (b ≡ true) → ⊥
any-either a b e z = let n : ◌≡◌ {A = ℕ} 0 1 = cc (e, z.0, z.1) in omega arith

pub any_some : {a b x y : ℕ} → (not (eqb a 0) || not (eqb b 0)) ≡ true → a ≡ x → b ≡ y → (x ≡ 0) × (y ≡ 0) → ⊥
any_some {a} {b} e p q z = any-either (eqb a 0) (eqb b 0) e (eq-eqb a 0 (p ∙ z.0), eq-eqb b 0 (q ∙ z.1))

pub none-some : {a b x y : ℕ} → (not (eqb a 0) || not (eqb b 0)) ≡ false → a ≡ x → b ≡ y → (x ≡ 0) × (y ≡ 0)
none-some {a} {b} e p q =
    let z = none-either (eqb a 0) (eqb b 0) e in
    (sym p ∙ eqb-true a 0 z.0, sym q ∙ eqb-true b 0 z.1)
  where
    none-either : (a b : Bool) → (not a || not b) ≡ false → (a ≡ true) × (b ≡ true)
    none-either true true e = (refl, refl)
    none-either true false e = absurd (true≢false e)
    none-either false b e = absurd (true≢false e)

-- the charge of one with a share, which is listed, by its line
module _ (F : Facts) (ev i : ℕ) (some : (owed.u F ev i ≡ 0) × (owed.off_u F ev i ≡ 0) → ⊥) where
  listed : year.listed (F.event ev).listing i ≡ true
  listed = go (year.listed (F.event ev).listing i) refl
    where
      go : (b : Bool) → year.listed (F.event ev).listing i ≡ b → b ≡ true
      go true e = refl
      go false e = absurd (some (u-unlisted F ev i e, off-unlisted F ev i e))

  pub daily-is : {b : Bool} (x : ℕ) → b ≡ one_or_three (F.event ev).period → daily_of b (line_of F ev i x) ≡ owed.daily F ev x i
  unfolding owed.asked owed.daily before_cap
  daily-is x p = rw (p, listed)

pub charge-is : (F : Facts) (k ev i : ℕ) {d m days : ℕ} → d ≡ owed.daily F ev (owed.spent F ev i) i → m ≡ (F.event ev).month → days ≡ D F k
    → cond (leb (due (year.product F.terms i) m) k) (d * days / 1000) 0 ≡ owed.charge F k ev i
unfolding owed.charge
charge-is F k ev i e p q = rw (p, q, e)

module _ {F : Facts} {k ev i : ℕ} {w₀ w : List ℕ} {all : ℕ} (h : Charging F k ev i w₀ w all) where
  -- a registration without a share
  pub charging-none : i < registrations → owed.u F ev i ≡ 0 → owed.off_u F ev i ≡ 0 → Charging F k ev (i + 1) w₀ w all
  charging-none l none off =
      record {
        upto = omega arith;
        given = h.given;
        aside = h.aside;
        spent = renewed-none h.spent l (omega (arith, spent-step F ev i, daily-none F ev i none off (owed.spent F ev i)));
        compliance = grown-none h.compliance (charge-none F ev i none off k);
        sum = omega (arith, h.sum, sum_step i (owed.charge F k ev), charge-none F ev i none off k);
      }

  -- limits
  module _ (L : Limits F) where
    pub compliance-most : ev < event_limit → (s : ℕ) → s < sellers → at w (compliance_row + s) ≤ 5734195200000
    compliance-most q s m = grown-most h.compliance 5396889600000 5270400000 h.upto (λ j a. compliance-le L k ev j (omega arith)) (λ j a. charge-le L k ev j) s m

    pub sum-most : all ≤ 337305600000
    sum-most = omega (arith, h.sum, sum_bound i 5270400000 (owed.charge F k ev) (λ j a. charge-le L k ev j), h.upto)

  pub charging-more : {d c : ℕ} {m v : List ℕ} → i < registrations → F.seller i < sellers → d ≡ owed.daily F ev (owed.spent F ev i) i → c ≡ owed.charge F k ev i
      → Stored (spent_row + i) (at w (spent_row + i) + d) w m → Stored (compliance_row + F.seller i) (at m (compliance_row + F.seller i) + c) m v
      → Charging F k ev (i + 1) w₀ v (all + c)
  charging-more l b e f s t =
      let stores : Aside spent_row (credit_row - spent_row) w _ = aside-more (aside-more aside_none s (omega arith) (omega arith)) t (omega arith) (omega arith) in
      record {
        upto = omega arith;
        given = given-aside h.given stores (omega arith) (omega arith);
        aside = aside_then h.aside stores (omega arith) (omega arith) (omega arith) (omega arith);
        spent = renewed-kept (renewed-more h.spent s (rw (renewed-next h.spent l, e) (sym (spent-step F ev i)))) t (omega arith) (λ x y. omega arith);
        compliance = grown-more (grown-kept h.compliance s (λ x y. omega arith)) t b refl f;
        sum = omega (arith, h.sum, sum_step i (owed.charge F k ev));
      }

  pub charging-all : i ≡ registrations → Billed F k (ev + 1) w
  unfolding compliance_by of_seller
  charging-all q =
      record {
        spent = rw q at h.spent.done;
        compliance = row_same (rw q at h.compliance.row) (λ s m. sym (sum_step ev (λ d. of_seller F s (owed.charge F k d))));
      }
