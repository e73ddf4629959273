-- Pass 2: sums by seller entry by entry, then shortfalls and excesses seller by seller.
use Rattle.std.specs.Prelude.{ℕ, ◌+◌, ◌-◌, ◌≤◌, ◌<◌, ◌≡◌, true, false, cond, Result, Ok, Err, List, length}
use Rattle.std.proofs.Common.{sym, ◌∙◌, arith, lit≤}
use Rattle.ids.specs.Ids.{at}
use Rattle.limits.specs.Limits.{registrations, sellers}
use Rattle.year.specs.Year as year
use Rattle.settle_table.specs.Allotments.{SellerAllotments, allotments-first}
use Rattle.owed.specs.Facts.{Facts}
use Rattle.owed.specs.Owed as owed
use Rattle.owed.specs.Owed.{unforced, excess}
use Rattle.owed_laws.specs.Sellers.{excess-is}
use Rattle.settle_table.specs.Columns.{Columns, columns-aside}
use Rattle.settle_table.specs.Places.{amount_in, passed_in, carried_width, short_row, over_row, u_row, allotment_places, later_places, size}
use Rattle.settle_shortfalls.specs.declared.MeasuredEntry.{MeasuredEntry}
use Rattle.settle_facts.specs.declared.EventEntry.{EventEntry}
use Rattle.settle_shortfalls.specs.Sums.{compare, compared_by, Sums, Summed, sums_first, sums_none, sums-more, sums-all, summed_kept, shortfall-is}
use Rattle.settle_table.specs.Rows.{Stored, Aside, Row, none, aside_none, aside-of, aside-more, row_kept, row_within, row_more}

-- a look at registration i's entry, compared with what the table says that it committed
abbrev pub compared_entry : List ℕ → ℕ → EventEntry → MeasuredEntry
compared_entry w i x = record { first = compare w i x.reduction.0; second = x.second }

-- an entry as the rules have it; Err where the event does not list the registration
abbrev pub entry : Facts → ℕ → ℕ → MeasuredEntry
entry F ev i =
    record { first = compared_by F i (year.reduction (F.event ev).listing i); second = record { 0 = year.second (F.event ev).listing i } }

abbrev pub entry_at : Facts → ℕ → ℕ → Result MeasuredEntry MeasuredEntry
entry_at F ev i = cond (year.listed (F.event ev).listing i) (Ok (entry F ev i)) (Err (entry F ev i))

-- the sums of an event's entries, and nothing allotted yet
pub record Weighed (F : Facts) (ev : ℕ) (w : List ℕ) : Type 0 where
  pub long : length w ≡ size
  pub sums : Summed F (year.listed (F.event ev).listing) (year.reduction (F.event ev).listing) short_row over_row w
  pub fresh_lack : Row w (short_row + passed_in) carried_width none
  pub fresh_more : Row w (over_row + passed_in) carried_width none

-- before entry i; w₀ is the table before the pass
pub record Weighing (F : Facts) (ev i : ℕ) (w₀ w : List ℕ) : Type 0 where
  pub upto : i ≤ registrations
  pub columns : Columns F registrations w
  pub aside : Aside short_row allotment_places w₀ w
  pub sums : Sums F (year.listed (F.event ev).listing) (year.reduction (F.event ev).listing) short_row over_row i w
  pub fresh_lack : Row w (short_row + passed_in) carried_width none
  pub fresh_more : Row w (over_row + passed_in) carried_width none

pub weighing-first : {F : Facts} (ev : ℕ) {w : List ℕ} → Columns F registrations w → Row w short_row allotment_places none → Weighing F ev 0 w w
weighing-first {F} ev h r =
    record {
      upto = omega arith;
      columns = h;
      aside = aside_none;
      sums = sums_first F (year.listed (F.event ev).listing) (year.reduction (F.event ev).listing) short_row over_row (row_within short_row sellers r (omega arith) (omega arith)) (row_within over_row sellers r (omega arith) (omega arith));
      fresh_lack = row_within (short_row + passed_in) carried_width r (omega arith) (omega arith);
      fresh_more = row_within (over_row + passed_in) carried_width r (omega arith) (omega arith);
    }

module _ {F : Facts} {ev i : ℕ} {w₀ w : List ℕ} (h : Weighing F ev i w₀ w) where
  pub weighing-none : i < registrations → year.listed (F.event ev).listing i ≡ false → Weighing F ev (i + 1) w₀ w
  weighing-none l z =
      record {
        upto = omega arith;
        columns = h.columns;
        aside = h.aside;
        sums = sums_none h.sums z;
        fresh_lack = h.fresh_lack;
        fresh_more = h.fresh_more;
      }

  -- a listed entry
  pub weighing-more : {m y : List ℕ} → i < registrations → year.listed (F.event ev).listing i ≡ true → F.seller i < sellers → let x = (entry F ev i).first in
      Stored (short_row + F.seller i) (at w (short_row + F.seller i) + x.short.0) w m
      → Stored (over_row + F.seller i) (at m (over_row + F.seller i) + x.over.0) m y → Weighing F ev (i + 1) w₀ y
  weighing-more u on l s1 s2 =
      record {
        upto = omega arith;
        columns = columns-aside (columns-aside h.columns (aside-of s1) (omega arith) (omega arith)) (aside-of s2) (omega arith) (omega arith);
        aside = aside-more (aside-more h.aside s1 (omega arith) (omega arith)) s2 (omega arith) (omega arith);
        sums = sums-more h.sums (lit≤ tt) on l s1 s2;
        fresh_lack = row_kept (row_kept h.fresh_lack s1 (λ p q. omega arith)) s2 (λ p q. omega arith);
        fresh_more = row_kept (row_kept h.fresh_more s1 (λ p q. omega arith)) s2 (λ p q. omega arith);
      }

  pub weighing-all : i ≡ registrations → Weighed F ev w
  weighing-all q = record { long = h.columns.long; sums = sums-all h.sums q; fresh_lack = h.fresh_lack; fresh_more = h.fresh_more }

-- the shortfalls and excesses of the first s sellers
pub record Netted (F : Facts) (ev s : ℕ) (w : List ℕ) : Type 0 where
  pub upto : s ≤ sellers
  pub weighed : Weighed F ev w
  pub shortfall : Row w (short_row + amount_in) s (owed.shortfall F ev)
  pub excess : Row w (over_row + amount_in) s (owed.excess F ev)

module _ {F : Facts} {ev s : ℕ} {w : List ℕ} (h : Netted F ev s w) where
  module _ {short over : ℕ} (l : s < sellers) (p : short ≡ at w (short_row + s)) (q : over ≡ at w (over_row + s)) where
    excess-of : over - short ≡ owed.excess F ev s
    excess-of = let sums = h.weighed.sums in rw (p, q, sums.short.is s l, sums.over.is s l) (sym (excess-is F s ev))

    pub netted-more : {a b : ℕ} {m v : List ℕ} → a ≡ unforced F (short - over) - year.deficit (F.event ev).listing s → b ≡ over - short
        → Stored (short_row + amount_in + s) a w m → Stored (over_row + amount_in + s) b m v → Netted F ev (s + 1) v
    netted-more f g s1 s2 =
        record {
          upto = omega arith;
          weighed = record {
            long = s2.long ∙ s1.long ∙ h.weighed.long;
            sums = summed_kept (summed_kept h.weighed.sums s1 (λ x y. omega arith) (λ x y. omega arith)) s2 (λ x y. omega arith) (λ x y. omega arith);
            fresh_lack = row_kept (row_kept h.weighed.fresh_lack s1 (λ x y. omega arith)) s2 (λ x y. omega arith);
            fresh_more = row_kept (row_kept h.weighed.fresh_more s1 (λ x y. omega arith)) s2 (λ x y. omega arith);
          };
          shortfall = row_kept (row_more h.shortfall s1 (f ∙ shortfall-is h.weighed.sums s l (year.deficit (F.event ev).listing) p q)) s2 (λ x y. omega arith);
          excess = row_more (row_kept h.excess s1 (λ x y. omega arith)) s2 (g ∙ excess-of);
        }

-- both allotments may begin; all that comes behind them is still 0
pub record Ready (F : Facts) (ev : ℕ) (w : List ℕ) : Type 0 where
  pub short : SellerAllotments F (year.listed (F.event ev).listing) (owed.short F ev) (owed.shortfall F ev) short_row 0 w
  pub over : SellerAllotments F (year.listed (F.event ev).listing) (owed.over F ev) (owed.excess F ev) over_row 0 w
  pub fresh : Row w u_row later_places none

pub netted-all : {F : Facts} {ev : ℕ} {w : List ℕ} → Netted F ev sellers w → Row w u_row later_places none → Ready F ev w
netted-all h z =
    record {
      short = allotments-first h.weighed.sums.short h.shortfall h.weighed.fresh_lack;
      over = allotments-first h.weighed.sums.over h.excess h.weighed.fresh_more;
      fresh = z;
    }
