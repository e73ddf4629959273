-- The registrations as they are entered into the working table: their terms, and their areas' sums.
use Rattle.std.specs.Prelude.{ℕ, ◌+◌, ◌-◌, ◌*◌, ◌<◌, List, ◌≡◌, refl, length, replicate}
use Rattle.std.proofs.Common.{◌∙◌, arith}
use Rattle.std.proofs.lemmas.List.{length-replicate}
use Rattle.ids.specs.Sets.{get_or-replicate-same}
use Rattle.limits.specs.Limits.{registrations, areas}
use Rattle.year.specs.declared.Registration.{Registration}
use Rattle.year.specs.Year as year
use Rattle.year_cells.specs.Layout.{group_in, year_in}
use Rattle.owed.specs.Facts.{Facts}
use Rattle.owed.specs.Owed as owed
use Rattle.settle_facts.specs.CellFacts.{facts}
use Rattle.settle_table.specs.Places.{seller_row, product_row, committed_row, rate_row, cap_row, dispatch_count_row, group_row, area_row, area_kw_row, area_worth_row, area_rate_row, fresh_places, size}
use Rattle.settle_table.specs.Rows.{Stored, Aside, Row, none, row-aside, row_kept, row_first, row_more, grown-first}
use Rattle.settle_rates.specs.AreaSums.{averaged_kw, worth_at, AreaSums, sums_kept}

-- registration i's cap by its own rate
module _ (F : Facts) where
  abbrev pub own_cap : ℕ → ℕ
  own_cap i = owed.unforced F (year.committed F.terms i) * owed.own F i

-- the first i registrations' terms, but for their rates
pub record Entered (c : List ℕ) (i : ℕ) (w : List ℕ) : Type 0 where
  pub seller : Row w seller_row i (facts c).seller
  pub product : Row w product_row i (year.product (facts c).terms)
  pub committed : Row w committed_row i (year.committed (facts c).terms)
  pub group : Row w group_row i (group_in c)
  pub area : Row w area_row i (year.area (facts c).terms)

-- both stand in the table, with their own rates and the caps by these, and nothing else
pub record Begun (c : List ℕ) (i : ℕ) (w : List ℕ) : Type 0 where
  pub long : length w ≡ size
  pub entered : Entered c i w
  pub own : Row w rate_row i (owed.own (facts c))
  pub cap : Row w cap_row i (own_cap (facts c))
  pub sums : AreaSums (facts c) i w
  pub fresh : Row w dispatch_count_row fresh_places none

-- registration i may be entered next: it is that of the cells, and those before it stand in the table
abbrev pub Next : List ℕ → ℕ → Registration → List ℕ → Type 0
Next c i r w = (i < registrations) × (r ≡ year.registration (year_in c).terms i) × Begun c i w

pub begun_first : (c : List ℕ) → Begun c 0 (replicate size 0)
begun_first c =
    let w : List ℕ = replicate size 0 in
    let F = facts c in
    let zeros : (p n : ℕ) → Row w p n none = λ p n. record { is = λ j m. get_or-replicate-same {A = ℕ} size (p + j) 0 } in
    record {
      long = length-replicate {A = ℕ} size 0;
      entered = record { seller = row_first w seller_row F.seller; product = row_first w product_row (year.product F.terms); committed = row_first w committed_row (year.committed F.terms); group = row_first w group_row (group_in c); area = row_first w area_row (year.area F.terms) };
      own = row_first w rate_row (owed.own F);
      cap = row_first w cap_row (own_cap F);
      sums = record { kw = grown-first (year.area F.terms) (averaged_kw F) (zeros area_kw_row areas); worth = grown-first (year.area F.terms) (worth_at F) (zeros area_worth_row areas) };
      fresh = zeros dispatch_count_row fresh_places;
    }

-- and its terms are entered
pub begun_more : {c : List ℕ} {i : ℕ} {w w₀ w₁ w₂ w₃ w₄ w₅ w₆ v : List ℕ} → Begun c i w → i < registrations → let F = facts c in
    AreaSums F (i + 1) w₀ → Aside area_kw_row (area_rate_row - area_kw_row) w w₀
    → Stored (seller_row + i) (F.seller i) w₀ w₁ → Stored (product_row + i) (year.product F.terms i) w₁ w₂ → Stored (committed_row + i) (year.committed F.terms i) w₂ w₃
    → Stored (rate_row + i) (owed.own F i) w₃ w₄ → Stored (cap_row + i) (own_cap F i) w₄ w₅
    → Stored (group_row + i) (group_in c i) w₅ w₆ → Stored (area_row + i) (year.area F.terms i) w₆ v → Begun c (i + 1) v
begun_more h l n a s₁ s₂ s₃ s₄ s₅ s₆ s₇ =
    record {
      long = s₇.long ∙ s₆.long ∙ s₅.long ∙ s₄.long ∙ s₃.long ∙ s₂.long ∙ s₁.long ∙ a.long ∙ h.long;
      entered = record {
        seller = row_kept (row_kept (row_kept (row_kept (row_kept (row_kept (row_more (row-aside h.entered.seller a (λ j m x y. omega arith)) s₁ refl) s₂ (λ a b. omega arith)) s₃ (λ a b. omega arith)) s₄ (λ a b. omega arith)) s₅ (λ a b. omega arith)) s₆ (λ a b. omega arith)) s₇ (λ a b. omega arith);
        product = row_kept (row_kept (row_kept (row_kept (row_kept (row_more (row_kept (row-aside h.entered.product a (λ j m x y. omega arith)) s₁ (λ a b. omega arith)) s₂ refl) s₃ (λ a b. omega arith)) s₄ (λ a b. omega arith)) s₅ (λ a b. omega arith)) s₆ (λ a b. omega arith)) s₇ (λ a b. omega arith);
        committed = row_kept (row_kept (row_kept (row_kept (row_more (row_kept (row_kept (row-aside h.entered.committed a (λ j m x y. omega arith)) s₁ (λ a b. omega arith)) s₂ (λ a b. omega arith)) s₃ refl) s₄ (λ a b. omega arith)) s₅ (λ a b. omega arith)) s₆ (λ a b. omega arith)) s₇ (λ a b. omega arith);
        group = row_kept (row_more (row_kept (row_kept (row_kept (row_kept (row_kept (row-aside h.entered.group a (λ j m x y. omega arith)) s₁ (λ a b. omega arith)) s₂ (λ a b. omega arith)) s₃ (λ a b. omega arith)) s₄ (λ a b. omega arith)) s₅ (λ a b. omega arith)) s₆ refl) s₇ (λ a b. omega arith);
        area = row_more (row_kept (row_kept (row_kept (row_kept (row_kept (row_kept (row-aside h.entered.area a (λ j m x y. omega arith)) s₁ (λ a b. omega arith)) s₂ (λ a b. omega arith)) s₃ (λ a b. omega arith)) s₄ (λ a b. omega arith)) s₅ (λ a b. omega arith)) s₆ (λ a b. omega arith)) s₇ refl;
      };
      own = row_kept (row_kept (row_kept (row_more (row_kept (row_kept (row_kept (row-aside h.own a (λ j m x y. omega arith)) s₁ (λ a b. omega arith)) s₂ (λ a b. omega arith)) s₃ (λ a b. omega arith)) s₄ refl) s₅ (λ a b. omega arith)) s₆ (λ a b. omega arith)) s₇ (λ a b. omega arith);
      cap = row_kept (row_kept (row_more (row_kept (row_kept (row_kept (row_kept (row-aside h.cap a (λ j m x y. omega arith)) s₁ (λ a b. omega arith)) s₂ (λ a b. omega arith)) s₃ (λ a b. omega arith)) s₄ (λ a b. omega arith)) s₅ refl) s₆ (λ a b. omega arith)) s₇ (λ a b. omega arith);
      sums = sums_kept (sums_kept (sums_kept (sums_kept (sums_kept (sums_kept (sums_kept n s₁ (omega arith)) s₂ (omega arith)) s₃ (omega arith)) s₄ (omega arith)) s₅ (omega arith)) s₆ (omega arith)) s₇ (omega arith);
      fresh = row_kept (row_kept (row_kept (row_kept (row_kept (row_kept (row_kept (row-aside h.fresh a (λ j m x y. omega arith)) s₁ (λ a b. omega arith)) s₂ (λ a b. omega arith)) s₃ (λ a b. omega arith)) s₄ (λ a b. omega arith)) s₅ (λ a b. omega arith)) s₆ (λ a b. omega arith)) s₇ (λ a b. omega arith);
    }
