-- What is measured off-peak in a dual event: sums by seller entry by entry, then shortfalls seller by seller, then the off-peak u entry by entry.
use Rattle.std.specs.Prelude.{ℕ, ◌+◌, ◌-◌, ◌≤◌, ◌<◌, ◌≡◌, refl, Bool, true, false, ◌&&◌, not, cond, Option, Some, None, List, eqb}
use Rattle.std.proofs.Common.{sym, ◌∙◌, arith, mul-le-mul, lit≤}
use Rattle.ids.specs.Ids.{at}
use Rattle.ids.specs.Sums.{sum-zero}
use Rattle.ids.specs.Tests.{and_parts, cond-le}
use Rattle.limits.specs.Limits.{registrations, sellers, nominated_limit}
use Rattle.settle_table.specs.Allotments.{SellerAllotments, Shared, stepper, shared-aside, allotments-first, allotments-asks, allotments-value, allotments-more, allotments-none, allotments-all, allotments-kept}
use Rattle.allotment.specs.Stepper.{Asks}
use Rattle.allotment.specs.Divisions.{divisions}
use Rattle.calendar.specs.Calendar.{limited}
use Rattle.year.specs.Year as year
use Rattle.owed.specs.Facts.{Facts}
use Rattle.owed.specs.Divisions.{divisions_of, off_divisions}
use Rattle.owed.specs.Owed.{of_seller, unforced, measured, off_shortfall, off_short, off_u}
use Rattle.owed_laws.specs.Limits.{Limits}
use Rattle.owed_laws.specs.Sellers.{of_seller-le}
use Rattle.owed_laws.specs.Bounds.{short-le, shortfall-le}
use Rattle.owed_laws.specs.Unlisted.{off-none}
use Rattle.settle_shortfalls.specs.Sharing.{second_of, Shares, shares-aside}
use Rattle.settle_table.specs.Columns.{Columns, columns-aside}
use Rattle.settle_table.specs.Places.{amount_in, passed_in, divisions_in, carried_width, off_u_row, off_short_row, off_over_row, test_row, off_peak_places}
use Rattle.settle_table.specs.Rows.{Stored, Aside, Row, Renewed, none, mark, aside_none, aside-of, aside-more, aside_then, row_same, row_kept, row_within, row_more, renewed-first, renewed-aside, renewed-more, renewed-none}
use Rattle.settle_shortfalls.specs.Sums.{compared_by, Sums, Summed, sums_first, sums_none, sums-more, sums-all, summed_kept, shortfall-is}
use Rattle.settle_shortfalls.specs.declared.Compared.{Compared}

-- what the table has of an event's entries
pub record Entries (F : Facts) (ev : ℕ) (w : List ℕ) : Type 0 where
  pub columns : Columns F registrations w
  pub shares : Shares F ev w

pub entries-aside : {F : Facts} {ev p n : ℕ} {w v : List ℕ} → Entries F ev w → Aside p n w v → off_u_row ≤ p → Entries F ev v
entries-aside h a l =
    record { columns = columns-aside h.columns a (lit≤ tt) (omega arith); shares = shares-aside h.shares a (λ k x y c d. omega arith) }

-- an entry as the rules have it; none where it is not measured
abbrev pub entry : Facts → ℕ → ℕ → Compared
entry F ev i = compared_by F i (second_of F ev i)

abbrev pub entry_at : Facts → ℕ → ℕ → Option Compared
entry_at F ev i = cond (measured F ev i) (Some (entry F ev i)) None

-- the test of an entry in the table
marked : (b : Bool) → not (eqb (mark b) 0) ≡ b
marked true = refl
marked false = refl

pub measured-is : (F : Facts) (ev i : ℕ) {a : Bool} {l p : ℕ} → a ≡ (F.event ev).dual → l ≡ mark (year.listed (F.event ev).listing i) → p ≡ year.product F.terms i
    → (a && (not (eqb l 0) && not (eqb p limited))) ≡ measured F ev i
unfolding measured
measured-is F ev i a l p = rw (a, l, p, marked (year.listed (F.event ev).listing i))

-- one that is measured is listed, and so its second reduction counts
pub second_is : (F : Facts) (ev i : ℕ) → measured F ev i ≡ true → second_of F ev i ≡ year.second (F.event ev).listing i
unfolding measured
second_is F ev i on =
    let a = and_parts (F.event ev).dual (year.listed (F.event ev).listing i && not (eqb (year.product F.terms i) limited)) on in
    rw (and_parts (year.listed (F.event ev).listing i) (not (eqb (year.product F.terms i) limited)) a.1).0

-- and it is small
pub second-small : {F : Facts} → Limits F → (ev i : ℕ) → second_of F ev i ≤ nominated_limit
second-small {F} L ev i = cond-le (year.listed (F.event ev).listing i) (L.off_peak ev i)

-- the off-peak u of its entries
abbrev pub OffShares : Facts → ℕ → List ℕ → Type 0
OffShares F ev w = Row w off_u_row registrations (off_u F ev)

-- how many divisions each seller's off-peak allotment made
abbrev pub OffDivided : Facts → ℕ → List ℕ → Type 0
OffDivided F ev w = Row w (off_short_row + divisions_in) sellers (off_divisions F ev)

-- how many places there are of the third allotment and of what is given more
abbrev pub sum_places : ℕ
sum_places = test_row - off_short_row

-- the sums of the measured entries, and nothing allotted yet
pub record Weighed (F : Facts) (ev : ℕ) (w : List ℕ) : Type 0 where
  pub entries : Entries F ev w
  pub sums : Summed F (measured F ev) (year.second (F.event ev).listing) off_short_row off_over_row w
  pub fresh : Row w (off_short_row + passed_in) carried_width none

-- before entry i; w₀ is the table before the loop
pub record Weighing (F : Facts) (ev i : ℕ) (w₀ w : List ℕ) : Type 0 where
  pub upto : i ≤ registrations
  pub entries : Entries F ev w
  pub aside : Aside off_short_row sum_places w₀ w
  pub sums : Sums F (measured F ev) (year.second (F.event ev).listing) off_short_row off_over_row i w
  pub fresh : Row w (off_short_row + passed_in) carried_width none

pub weighing-first : {F : Facts} (ev : ℕ) {w : List ℕ} → Entries F ev w → Row w off_short_row sum_places none → Weighing F ev 0 w w
weighing-first {F} ev h r =
    record {
      upto = omega arith;
      entries = h;
      aside = aside_none;
      sums = sums_first F (measured F ev) (year.second (F.event ev).listing) off_short_row off_over_row (row_within off_short_row sellers r (omega arith) (omega arith)) (row_within off_over_row sellers r (omega arith) (omega arith));
      fresh = row_within (off_short_row + passed_in) carried_width r (omega arith) (omega arith);
    }

module _ {F : Facts} {ev i : ℕ} {w₀ w : List ℕ} (h : Weighing F ev i w₀ w) where
  pub weighing-none : i < registrations → measured F ev i ≡ false → Weighing F ev (i + 1) w₀ w
  weighing-none l z = record { upto = omega arith; entries = h.entries; aside = h.aside; sums = sums_none h.sums z; fresh = h.fresh }

  pub weighing-more : {m y : List ℕ} → i < registrations → measured F ev i ≡ true → F.seller i < sellers → let x = entry F ev i in
      Stored (off_short_row + F.seller i) (at w (off_short_row + F.seller i) + x.short.0) w m
      → Stored (off_over_row + F.seller i) (at m (off_over_row + F.seller i) + x.over.0) m y → Weighing F ev (i + 1) w₀ y
  weighing-more u on l s1 s2 =
      let stores : Aside off_short_row sum_places w _ = aside-more (aside-more aside_none s1 (omega arith) (omega arith)) s2 (omega arith) (omega arith) in
      let second = second_is F ev i on in
      record {
        upto = omega arith;
        entries = entries-aside h.entries stores (lit≤ tt);
        aside = aside_then h.aside stores (omega arith) (omega arith) (omega arith) (omega arith);
        sums = sums-more h.sums (lit≤ tt) on l (rw second at s1) (rw second at s2);
        fresh = row_kept (row_kept h.fresh s1 (λ p q. omega arith)) s2 (λ p q. omega arith);
      }

  pub weighing-all : i ≡ registrations → Weighed F ev w
  weighing-all q = record { entries = h.entries; sums = sums-all h.sums q; fresh = h.fresh }

-- the shortfalls of the first s sellers
pub record Netted (F : Facts) (ev s : ℕ) (w : List ℕ) : Type 0 where
  pub upto : s ≤ sellers
  pub weighed : Weighed F ev w
  pub shortfall : Row w (off_short_row + amount_in) s (off_shortfall F ev)

pub netted-more : {F : Facts} {ev s short over a : ℕ} {w v : List ℕ} → Netted F ev s w → s < sellers → short ≡ at w (off_short_row + s) → over ≡ at w (off_over_row + s)
    → a ≡ unforced F (short - over) - year.deficit (F.event ev).listing s → Stored (off_short_row + amount_in + s) a w v → Netted F ev (s + 1) v
netted-more {F} {ev} {s} {v = v} h l p q f st =
    let stores : Aside off_short_row sum_places _ v = aside-more aside_none st (omega arith) (omega arith) in
    record {
      upto = omega arith;
      weighed = record {
        entries = entries-aside h.weighed.entries stores (lit≤ tt);
        sums = summed_kept h.weighed.sums st (λ x y. omega arith) (λ x y. omega arith);
        fresh = row_kept h.weighed.fresh st (λ x y. omega arith);
      };
      shortfall = row_more h.shortfall st (f ∙ shortfall-is h.weighed.sums s l (year.deficit (F.event ev).listing) p q);
    }

-- the allotment may begin; no entry has its off-peak u yet
pub record Ready (F : Facts) (ev : ℕ) (w : List ℕ) : Type 0 where
  pub entries : Entries F ev w
  pub short : SellerAllotments F (measured F ev) (off_short F ev) (off_shortfall F ev) off_short_row 0 w
  pub fresh : Row w off_u_row registrations none

pub netted-all : {F : Facts} {ev : ℕ} {w : List ℕ} → Netted F ev sellers w → Row w off_u_row registrations none → Ready F ev w
netted-all h z =
    record { entries = h.weighed.entries; short = allotments-first h.weighed.sums.short h.shortfall h.weighed.fresh; fresh = z }

-- before entry i; w₀ is the table before the loop
pub record Sharing (F : Facts) (ev i : ℕ) (w₀ w : List ℕ) : Type 0 where
  pub upto : i ≤ registrations
  pub entries : Entries F ev w
  pub aside : Aside off_u_row off_peak_places w₀ w
  pub short : SellerAllotments F (measured F ev) (off_short F ev) (off_shortfall F ev) off_short_row i w
  pub u : Renewed w off_u_row registrations (off_u F ev) none i

pub sharing-first : {F : Facts} {ev : ℕ} {w : List ℕ} → Ready F ev w → Sharing F ev 0 w w
sharing-first {F} {ev} r =
    record { upto = omega arith; entries = r.entries; aside = aside_none; short = r.short; u = renewed-first (off_u F ev) r.fresh }

module _ {F : Facts} {ev i : ℕ} {w₀ w : List ℕ} (h : Sharing F ev i w₀ w) where
  pub sharing-none : i < registrations → measured F ev i ≡ false → Sharing F ev (i + 1) w₀ w
  sharing-none l off =
      record { upto = omega arith; entries = h.entries; aside = h.aside; short = allotments-none h.short off (rw off); u = renewed-none h.u l (sym (off-none F ev i off)) }

  pub sharing-all : i ≡ registrations → OffShares F ev w × OffDivided F ev w
  sharing-all q = (rw q at h.u.done, allotments-all h.short q)

  -- a measured entry
  module _ (L : Limits F) (l : i < registrations) (on : measured F ev i ≡ true) where
    short-is : (entry F ev i).short.0 ≡ off_short F ev i
    short-is = rw (on, second_is F ev i on)

    pub u-asks : Asks (stepper off_short_row w (F.seller i)) (entry F ev i).short.0
    u-asks =
        allotments-asks h.short (L.seller i) short-is l
        (omega (arith, mul-le-mul (shortfall-le L (measured F ev) (year.second (F.event ev).listing) (year.deficit (F.event ev).listing) (F.seller i)) (of_seller-le F (F.seller i) nominated_limit (short-le L (measured F ev) (year.second (F.event ev).listing)))))

    pub sharing-more : {m v : List ℕ} {u : ℕ} → Shared off_short_row (F.seller i) (entry F ev i).short.0 w m u → Stored (off_u_row + i) u m v → Sharing F ev (i + 1) w₀ v
    unfolding off_u
    sharing-more {m} {v} g st =
        let moved : Aside (off_short_row + passed_in) carried_width w m = shared-aside (L.seller i) g in
        let stores : Aside off_u_row off_peak_places w v = aside_then moved (aside-of st) (omega arith) (omega arith) (omega arith) (omega arith) in
        record {
          upto = omega arith;
          entries = entries-aside h.entries stores (lit≤ tt);
          aside = aside_then h.aside stores (omega arith) (omega arith) (omega arith) (omega arith);
          short = allotments-kept (allotments-more h.short (L.seller i) short-is g on) st (λ c d. omega arith);
          u = renewed-more (renewed-aside h.u moved h.upto (λ j k c d. omega arith)) st (allotments-value h.short (L.seller i) short-is g);
        }

-- where the event is not dual there is no off-peak u, and nothing is divided
module _ (F : Facts) (ev : ℕ) (off : (F.event ev).dual ≡ false) where
  unmeasured : (i : ℕ) → measured F ev i ≡ false
  unfolding measured
  unmeasured i = rw off

  none-divided : (s : ℕ) → off_divisions F ev s ≡ 0
  unfolding divisions_of divisions of_seller
  none-divided s =
      let none : of_seller F s (off_short F ev) ≡ 0 = sum-zero registrations (λ i l. rw (unmeasured i) (let le = cond-le (eqb (F.seller i) s) {x = 0} {b = 0} (lit≤ tt) in omega arith)) in
      rw none

  pub measured-none : {w : List ℕ} → Row w off_u_row off_peak_places none → OffShares F ev w × OffDivided F ev w
  measured-none r = (
    row_same (row_within off_u_row registrations r (omega arith) (omega arith)) (λ i l. sym (off-none F ev i (unmeasured i))),
    row_same (row_within (off_short_row + divisions_in) sellers r (omega arith) (omega arith)) (λ s l. sym (none-divided s)),
  )
