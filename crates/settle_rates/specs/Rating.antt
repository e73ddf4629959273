-- The rates in force and the caps, registration by registration, in the working table that all are entered into.
use Rattle.std.specs.Prelude.{ℕ, ◌+◌, ◌*◌, ◌/◌, ◌≤◌, ◌<◌, List, ◌≡◌, length}
use Rattle.std.proofs.Common.{ap, ◌∙◌, arith, zero-add}
use Rattle.ids.specs.Ids.{at}
use Rattle.limits.specs.Limits.{registrations, areas}
use Rattle.year.specs.Year as year
use Rattle.year_cells.specs.Layout.{group_in}
use Rattle.year_cells.specs.Rows.{Off}
use Rattle.owed.specs.Owed.{of_area, area_rate}
use Rattle.owed.specs.Owed as owed
use Rattle.settle_facts.specs.CellFacts.{facts}
use Rattle.settle_table.specs.Columns.{Columns}
use Rattle.settle_table.specs.Places.{seller_row, product_row, committed_row, rate_row, cap_row, dispatch_count_row, group_row, area_row, area_kw_row, area_worth_row, area_rate_row, fresh_places, size}
use Rattle.settle_table.specs.Rows.{Stored, Aside, Row, Renewed, none, aside_none, aside-more, row-aside, row_same, renewed-first, renewed-kept, renewed-more, renewed-none}
use Rattle.settle_rates.specs.AreaSums.{averaged_kw, worth_at, AreaSums}
use Rattle.settle_rates.specs.Entering.{own_cap, Entered, Begun}

-- the average of what is lent in an area
abbrev pub average_in : List ℕ → ℕ → ℕ
average_in w a = at w (area_worth_row + a) / at w (area_kw_row + a)

-- it is the area's rate
area-rate-is : (c : List ℕ) {w : List ℕ} → AreaSums (facts c) registrations w → (a : ℕ) → a < areas → average_in w a ≡ area_rate (facts c) a
unfolding of_area area_rate
area-rate-is c h a m =
    let F = facts c in
    rw (h.worth.row.is a m, h.kw.row.is a m, zero-add (of_area F a (worth_at F)), zero-add (of_area F a (averaged_kw F)))

-- the first i registrations' rates in force and their caps stand in it, the others' own ones still
pub record Rating (c : List ℕ) (i : ℕ) (w : List ℕ) : Type 0 where
  pub upto : i ≤ registrations
  pub long : length w ≡ size
  pub entered : Entered c registrations w
  pub rate : Renewed w rate_row registrations (owed.rate (facts c)) (owed.own (facts c)) i
  pub cap : Renewed w cap_row registrations (owed.cap (facts c)) (own_cap (facts c)) i
  pub areas : Row w area_rate_row areas (area_rate (facts c))
  pub fresh : Row w dispatch_count_row fresh_places none

-- all registrations' terms, and nothing else that the passes read
pub record Rated (c : List ℕ) (w : List ℕ) : Type 0 where
  pub columns : Columns (facts c) registrations w
  pub group : Row w group_row registrations (group_in c)
  pub fresh : Row w dispatch_count_row fresh_places none

-- what is stored beside the terms leaves them as they are
entered-aside : {c w v : List ℕ} {q m : ℕ} → Entered c registrations w → Aside q m w v → ((j : ℕ) → j < rate_row → Off q m j) → ((j : ℕ) → group_row ≤ j → j < area_kw_row → Off q m j) → Entered c registrations v
entered-aside h a o p =
    record {
      seller = row-aside h.seller a (λ j l. o (seller_row + j) (omega arith));
      product = row-aside h.product a (λ j l. o (product_row + j) (omega arith));
      committed = row-aside h.committed a (λ j l. o (committed_row + j) (omega arith));
      group = row-aside h.group a (λ j l. p (group_row + j) (omega arith) (omega arith));
      area = row-aside h.area a (λ j l. p (area_row + j) (omega arith) (omega arith));
    }

pub rating-first : {c w v : List ℕ} → Begun c registrations w → Row v area_rate_row areas (average_in w) → Aside area_rate_row areas w v → Rating c 0 v
rating-first {c} h r a =
    record {
      upto = omega arith;
      long = a.long ∙ h.long;
      entered = entered-aside h.entered a (λ j l x y. omega arith) (λ j k l x y. omega arith);
      rate = renewed-first (owed.rate (facts c)) (row-aside h.own a (λ j l x y. omega arith));
      cap = renewed-first (owed.cap (facts c)) (row-aside h.cap a (λ j l x y. omega arith));
      areas = row_same r (area-rate-is c h.sums);
      fresh = row-aside h.fresh a (λ j l x y. omega arith);
    }

-- one that keeps its own
pub rating-none : {c w : List ℕ} {i : ℕ} → Rating c i w → i < registrations → owed.own (facts c) i ≡ owed.rate (facts c) i → Rating c (i + 1) w
unfolding owed.cap
rating-none {c} {i = i} h l e =
    record {
      upto = omega arith;
      long = h.long;
      entered = h.entered;
      rate = renewed-none h.rate l e;
      cap = renewed-none h.cap l (ap (λ q. owed.unforced (facts c) (year.committed (facts c).terms i) * q) e);
      areas = h.areas;
      fresh = h.fresh;
    }

-- one that borrows
pub rating-more : {c w m v : List ℕ} {i x y : ℕ} → Rating c i w → i < registrations → Stored (rate_row + i) x w m → x ≡ owed.rate (facts c) i → Stored (cap_row + i) y m v → y ≡ owed.cap (facts c) i → Rating c (i + 1) v
rating-more {w = w} {v = v} h l s d t e =
    let a : Aside rate_row 128 w v = aside-more (aside-more aside_none s (omega arith) (omega arith)) t (omega arith) (omega arith) in
    record {
      upto = omega arith;
      long = a.long ∙ h.long;
      entered = entered-aside h.entered a (λ j l x y. omega arith) (λ j k l x y. omega arith);
      rate = renewed-kept (renewed-more h.rate s d) t (omega arith) (λ a b. omega arith);
      cap = renewed-more (renewed-kept h.cap s h.upto (λ a b. omega arith)) t e;
      areas = row-aside h.areas a (λ j l x y. omega arith);
      fresh = row-aside h.fresh a (λ j l x y. omega arith);
    }

pub ruleset rating_begins = rating-first
