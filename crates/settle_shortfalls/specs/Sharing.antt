-- Pass 3: u and e entry by entry, with the second reductions.
use Rattle.std.specs.Prelude.{ℕ, ◌+◌, ◌≤◌, ◌<◌, ◌≡◌, true, false, List}
use Rattle.std.proofs.Common.{sym, arith, mul-le-mul}
use Rattle.ids.specs.Ids.{only}
use Rattle.limits.specs.Limits.{registrations, sellers, nominated_limit, nominated_sum}
use Rattle.settle_table.specs.Allotments.{SellerAllotments, Shared, stepper, shared-aside, allotments-asks, allotments-value, allotments-more, allotments-none, allotments-all, allotments-kept, allotments-aside}
use Rattle.allotment.specs.Stepper.{Asks}
use Rattle.year.specs.Year as year
use Rattle.owed.specs.Facts.{Facts}
use Rattle.owed.specs.Divisions.{u_divisions, e_divisions}
use Rattle.owed.specs.Owed as owed
use Rattle.owed_laws.specs.Limits.{Limits}
use Rattle.owed_laws.specs.Sellers.{of_seller-le}
use Rattle.owed_laws.specs.Bounds.{short-le, over-le, shortfall-le, excess-le}
use Rattle.owed_laws.specs.Unlisted.{u-unlisted, e-unlisted}
use Rattle.year_cells.specs.Rows.{Off}
use Rattle.settle_table.specs.Columns.{Columns, columns-aside}
use Rattle.settle_table.specs.Places.{passed_in, divisions_in, carried_width, short_row, over_row, u_row, e_row, listed_row, second_row, off_u_row, shared_places}
use Rattle.settle_table.specs.Rows.{Stored, Aside, Row, Renewed, none, mark, aside_none, aside-more, aside_then, row-aside, row_within, renewed-first, renewed-kept, renewed-aside, renewed-more, renewed-none}
use Rattle.settle_shortfalls.specs.declared.MeasuredEntry.{MeasuredEntry}
use Rattle.settle_shortfalls.specs.Weighing.{entry, Ready}

-- the second reductions of an event's entries
abbrev pub second_of : Facts → ℕ → ℕ → ℕ
second_of F ev = only (year.listed (F.event ev).listing) (year.second (F.event ev).listing)

-- the shares of its entries, which they are, and their second reductions
pub record Shares (F : Facts) (ev : ℕ) (w : List ℕ) : Type 0 where
  pub u : Row w u_row registrations (owed.u F ev)
  pub e : Row w e_row registrations (owed.e F ev)
  pub listed : Row w listed_row registrations (λ i. mark (year.listed (F.event ev).listing i))
  pub second : Row w second_row registrations (second_of F ev)

-- what is stored elsewhere
pub shares-aside : {F : Facts} {ev p n : ℕ} {w v : List ℕ} → Shares F ev w → Aside p n w v → ((k : ℕ) → u_row ≤ k → k < off_u_row → Off p n k) → Shares F ev v
shares-aside h a o =
    record {
      u = row-aside h.u a (λ j l. o (u_row + j) (omega arith) (omega arith));
      e = row-aside h.e a (λ j l. o (e_row + j) (omega arith) (omega arith));
      listed = row-aside h.listed a (λ j l. o (listed_row + j) (omega arith) (omega arith));
      second = row-aside h.second a (λ j l. o (second_row + j) (omega arith) (omega arith));
    }

-- how many divisions each seller's two allotments made
pub record Divided (F : Facts) (ev : ℕ) (w : List ℕ) : Type 0 where
  pub u : Row w (short_row + divisions_in) sellers (u_divisions F ev)
  pub e : Row w (over_row + divisions_in) sellers (e_divisions F ev)

-- before entry i; w₀ is the table before the pass
pub record Sharing (F : Facts) (ev i : ℕ) (w₀ w : List ℕ) : Type 0 where
  pub upto : i ≤ registrations
  pub columns : Columns F registrations w
  pub aside : Aside short_row shared_places w₀ w
  pub short : SellerAllotments F (year.listed (F.event ev).listing) (owed.short F ev) (owed.shortfall F ev) short_row i w
  pub over : SellerAllotments F (year.listed (F.event ev).listing) (owed.over F ev) (owed.excess F ev) over_row i w
  pub u : Renewed w u_row registrations (owed.u F ev) none i
  pub e : Renewed w e_row registrations (owed.e F ev) none i
  pub listed : Renewed w listed_row registrations (λ i. mark (year.listed (F.event ev).listing i)) none i
  pub second : Renewed w second_row registrations (second_of F ev) none i

pub sharing-first : {F : Facts} {ev : ℕ} {w : List ℕ} → Columns F registrations w → Ready F ev w → Sharing F ev 0 w w
sharing-first {F} {ev} h r =
    record {
      upto = omega arith;
      columns = h;
      aside = aside_none;
      short = r.short;
      over = r.over;
      u = renewed-first (owed.u F ev) (row_within u_row registrations r.fresh (omega arith) (omega arith));
      e = renewed-first (owed.e F ev) (row_within e_row registrations r.fresh (omega arith) (omega arith));
      listed = renewed-first (λ i. mark (year.listed (F.event ev).listing i)) (row_within listed_row registrations r.fresh (omega arith) (omega arith));
      second = renewed-first (second_of F ev) (row_within second_row registrations r.fresh (omega arith) (omega arith));
    }

module _ {F : Facts} {ev i : ℕ} {w₀ w : List ℕ} (h : Sharing F ev i w₀ w) where
  pub sharing-none : i < registrations → year.listed (F.event ev).listing i ≡ false → Sharing F ev (i + 1) w₀ w
  sharing-none l off =
      record {
        upto = omega arith;
        columns = h.columns;
        aside = h.aside;
        short = allotments-none h.short off (rw off);
        over = allotments-none h.over off (rw off);
        u = renewed-none h.u l (sym (u-unlisted F ev i off));
        e = renewed-none h.e l (sym (e-unlisted F ev i off));
        listed = renewed-none h.listed l (rw off);
        second = renewed-none h.second l (rw off);
      }

  pub sharing-all : i ≡ registrations → Shares F ev w
  sharing-all q = record { u = rw q at h.u.done; e = rw q at h.e.done; listed = rw q at h.listed.done; second = rw q at h.second.done }

  pub sharing-divided : i ≡ registrations → Divided F ev w
  sharing-divided q = record { u = allotments-all h.short q; e = allotments-all h.over q }

  -- a listed entry
  module _ (L : Limits F) (l : i < registrations) (on : year.listed (F.event ev).listing i ≡ true) where
    abbrev x : MeasuredEntry
    x = entry F ev i

    short-is : x.first.short.0 ≡ owed.short F ev i
    short-is = rw on

    over-is : x.first.over.0 ≡ owed.over F ev i
    over-is = rw on

    pub u-asks : Asks (stepper short_row w x.first.seller) x.first.short.0
    u-asks =
        allotments-asks h.short (L.seller i) short-is l
        (omega (arith, mul-le-mul (shortfall-le L (year.listed (F.event ev).listing) (year.reduction (F.event ev).listing) (year.deficit (F.event ev).listing) (F.seller i)) (of_seller-le F (F.seller i) nominated_limit (short-le L (year.listed (F.event ev).listing) (year.reduction (F.event ev).listing)))))

    -- u is allotted
    module _ {m : List ℕ} {u : ℕ} (g : Shared short_row x.first.seller x.first.short.0 w m u) where
      u-aside : Aside (short_row + passed_in) carried_width w m
      u-aside = shared-aside (L.seller i) g

      u-over : SellerAllotments F (year.listed (F.event ev).listing) (owed.over F ev) (owed.excess F ev) over_row i m
      u-over = allotments-aside h.over u-aside (λ k a b c d. omega arith)

      pub e-asks : Asks (stepper over_row m x.first.seller) x.first.over.0
      e-asks =
          let most = of_seller-le F (F.seller i) nominated_limit (over-le L (year.listed (F.event ev).listing) (L.reduction ev)) in
          let less : owed.excess F ev (F.seller i) ≤ nominated_sum = omega (arith, excess-le L ev (F.seller i)) in
          allotments-asks u-over (L.seller i) over-is l (omega (arith, mul-le-mul less most))

      -- e too, and both are kept
      module _ {m' : List ℕ} {e : ℕ} (g' : Shared over_row x.first.seller x.first.over.0 m m' e) where
        e-aside : Aside (over_row + passed_in) carried_width m m'
        e-aside = shared-aside (L.seller i) g'

        elsewhere : {p : ℕ} {f : ℕ → ℕ} → Renewed w p registrations f none i → ((j : ℕ) → j < registrations → u_row ≤ p + j) → Renewed m' p registrations f none i
        elsewhere r o = renewed-aside (renewed-aside r u-aside h.upto (λ j k c d. omega (arith, o j k))) e-aside h.upto (λ j k c d. omega (arith, o j k))

        pub sharing-more : {m1 m2 m3 v : List ℕ} → Stored (u_row + i) u m' m1 → Stored (e_row + i) e m1 m2 → Stored (listed_row + i) 1 m2 m3 → Stored (second_row + i) x.second.0 m3 v → Sharing F ev (i + 1) w₀ v
        unfolding owed.u owed.e
        sharing-more s1 s2 s3 s4 =
            let stores : Aside short_row shared_places w _ = aside-more (aside-more (aside-more (aside-more (aside_then u-aside e-aside (omega arith) (omega arith) (omega arith) (omega arith)) s1 (omega arith) (omega arith)) s2 (omega arith) (omega arith)) s3 (omega arith) (omega arith)) s4 (omega arith) (omega arith) in
            record {
              upto = omega arith;
              columns = columns-aside h.columns stores (omega arith) (omega arith);
              aside = aside_then h.aside stores (omega arith) (omega arith) (omega arith) (omega arith);
              short = allotments-kept (allotments-kept (allotments-kept (allotments-kept (allotments-aside (allotments-more h.short (L.seller i) short-is g on) e-aside (λ k a b c d. omega arith)) s1 (λ c d. omega arith)) s2 (λ c d. omega arith)) s3 (λ c d. omega arith)) s4 (λ c d. omega arith);
              over = allotments-kept (allotments-kept (allotments-kept (allotments-kept (allotments-more u-over (L.seller i) over-is g' on) s1 (λ c d. omega arith)) s2 (λ c d. omega arith)) s3 (λ c d. omega arith)) s4 (λ c d. omega arith);
              u = renewed-kept (renewed-kept (renewed-kept (renewed-more (elsewhere h.u (λ j k. omega arith)) s1 (allotments-value h.short (L.seller i) short-is g)) s2 (omega arith) (λ c d. omega arith)) s3 (omega arith) (λ c d. omega arith)) s4 (omega arith) (λ c d. omega arith);
              e = renewed-kept (renewed-kept (renewed-more (renewed-kept (elsewhere h.e (λ j k. omega arith)) s1 h.upto (λ c d. omega arith)) s2 (allotments-value u-over (L.seller i) over-is g')) s3 (omega arith) (λ c d. omega arith)) s4 (omega arith) (λ c d. omega arith);
              listed = renewed-kept (renewed-more (renewed-kept (renewed-kept (elsewhere h.listed (λ j k. omega arith)) s1 h.upto (λ c d. omega arith)) s2 h.upto (λ c d. omega arith)) s3 (rw on)) s4 (omega arith) (λ c d. omega arith);
              second = renewed-more (renewed-kept (renewed-kept (renewed-kept (elsewhere h.second (λ j k. omega arith)) s1 h.upto (λ c d. omega arith)) s2 h.upto (λ c d. omega arith)) s3 h.upto (λ c d. omega arith)) s4 (rw on);
            }
