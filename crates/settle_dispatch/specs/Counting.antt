-- Pass 1, event by event and entry by entry.
use Rattle.std.specs.Prelude.{ℕ, ◌+◌, ◌-◌, ◌≤◌, ◌<◌, ◌≡◌, Bool, ◌&&◌, ◌||◌, List, length}
use Rattle.std.proofs.Math.Path.{refl, ap, sym}
use Rattle.std.proofs.Common.{◌∙◌, arith, le_refl}
use Rattle.std.proofs.Math.Bool.{true, false, cond}
use Rattle.ids.specs.Ids.{at, sum_to, count_to, any_to}
use Rattle.ids.specs.Sums.{sum_step, sum_bound}
use Rattle.ids.specs.Tests.{cond-le, any_step}
use Rattle.limits.specs.Limits.{registrations}
use Rattle.year.specs.Year as year
use Rattle.owed.specs.Facts.{Facts}
use Rattle.owed.specs.Owed.{one_or_three, dispatch_count, dispatched}
use Rattle.settle_table.specs.Places.{dispatch_count_row, dispatched_row, spent_row, size}
use Rattle.settle_table.specs.Rows.{Stored, Aside, Row, Renewed, none, mark, aside-more, row_same, row_within, renewed-kept, renewed-next, renewed-more, renewed-none}

-- n and the mark of a dispatched registration, by the first m events
module _ (F : Facts) (m i : ℕ) where
  unfoldable pub dispatch_count_by : ℕ
  dispatch_count_by = count_to m (λ ev. year.listed (F.event ev).listing i && one_or_three (F.event ev).period)

  unfoldable pub dispatched_by : ℕ
  dispatched_by = mark (any_to m (λ ev. year.listed (F.event ev).listing i))

-- the rows after all events: each registration's n, and whether it is dispatched
abbrev pub DispatchCounts : Facts → List ℕ → Type 0
DispatchCounts F w = Row w dispatch_count_row registrations (dispatch_count F)

abbrev pub DispatchMarks : Facts → List ℕ → Type 0
DispatchMarks F w = Row w dispatched_row registrations (λ i. mark (dispatched F i))

-- after m events
pub record Counting (F : Facts) (m : ℕ) (w : List ℕ) : Type 0 where
  pub long : length w ≡ size
  pub dispatch_count : Row w dispatch_count_row registrations (dispatch_count_by F m)
  pub dispatched : Row w dispatched_row registrations (dispatched_by F m)

pub counting-first : (F : Facts) {w : List ℕ} → length w ≡ size → Row w dispatch_count_row (spent_row - dispatch_count_row) none → Counting F 0 w
unfolding dispatch_count_by dispatched_by sum_to any_to
counting-first F l r =
    record {
      long = l;
      dispatch_count = row_same (row_within dispatch_count_row registrations r (omega arith) (omega arith)) (λ j m. refl);
      dispatched = row_same (row_within dispatched_row registrations r (omega arith) (omega arith)) (λ j m. refl);
    }

-- after all
module _ {F : Facts} {w : List ℕ} (h : Counting F F.events w) where
  pub dispatch-count-all : DispatchCounts F w
  unfolding dispatch_count dispatch_count_by
  dispatch-count-all = row_same h.dispatch_count (λ j m. refl)

  pub dispatched-all : DispatchMarks F w
  unfolding dispatched dispatched_by
  dispatched-all = row_same h.dispatched (λ j m. refl)

-- one more event
module _ (F : Facts) (ev i : ℕ) where
  dispatch-count-step : dispatch_count_by F (ev + 1) i ≡ dispatch_count_by F ev i + cond (year.listed (F.event ev).listing i && one_or_three (F.event ev).period) 1 0
  unfolding dispatch_count_by
  dispatch-count-step = sum_step ev (λ d. cond (year.listed (F.event d).listing i && one_or_three (F.event d).period) 1 0)

  dispatched-step : dispatched_by F (ev + 1) i ≡ mark (any_to ev (λ d. year.listed (F.event d).listing i) || year.listed (F.event ev).listing i)
  unfolding dispatched_by
  dispatched-step = ap mark (any_step ev (λ d. year.listed (F.event d).listing i))

  pub dispatch-count-most : dispatch_count_by F ev i ≤ ev
  unfolding dispatch_count_by
  dispatch-count-most = omega (arith, sum_bound ev 1 _ (λ d l. cond-le (year.listed (F.event d).listing i && one_or_three (F.event d).period) (le_refl 1)))

  module _ (off : year.listed (F.event ev).listing i ≡ false) where
    dispatch-count-same : dispatch_count_by F ev i ≡ dispatch_count_by F (ev + 1) i
    dispatch-count-same = omega (arith, dispatch-count-step, rw off at dispatch-count-step)

    dispatched-same : dispatched_by F ev i ≡ dispatched_by F (ev + 1) i
    unfolding dispatched_by
    dispatched-same = sym (dispatched-step ∙ rw off (go (any_to ev (λ d. year.listed (F.event d).listing i))))
      where
        go : (b : Bool) → mark (b || false) ≡ mark b
        go true = refl
        go false = refl

  module _ (on : year.listed (F.event ev).listing i ≡ true) where
    dispatch-count-one : dispatch_count_by F ev i + mark (one_or_three (F.event ev).period) ≡ dispatch_count_by F (ev + 1) i
    dispatch-count-one = sym (dispatch-count-step ∙ rw on)

    dispatched-one : 1 ≡ dispatched_by F (ev + 1) i
    dispatched-one = sym (dispatched-step ∙ rw on (go (any_to ev (λ d. year.listed (F.event d).listing i))))
      where
        go : (b : Bool) → mark (b || true) ≡ 1
        go true = refl
        go false = refl

-- event ev's entries, before entry i; w₀ is the table before the event
pub record Counts (F : Facts) (ev i : ℕ) (w₀ w : List ℕ) : Type 0 where
  pub upto : i ≤ registrations
  pub long : length w ≡ size
  pub aside : Aside dispatch_count_row (spent_row - dispatch_count_row) w₀ w
  pub dispatch_count : Renewed w dispatch_count_row registrations (dispatch_count_by F (ev + 1)) (dispatch_count_by F ev) i
  pub dispatched : Renewed w dispatched_row registrations (dispatched_by F (ev + 1)) (dispatched_by F ev) i

module _ {F : Facts} {ev i : ℕ} {w₀ w : List ℕ} (h : Counts F ev i w₀ w) where
  pub counts-none : i < registrations → year.listed (F.event ev).listing i ≡ false → Counts F ev (i + 1) w₀ w
  counts-none l off =
      record {
        upto = omega arith;
        long = h.long;
        aside = h.aside;
        dispatch_count = renewed-none h.dispatch_count l (dispatch-count-same F ev i off);
        dispatched = renewed-none h.dispatched l (dispatched-same F ev i off);
      }

  pub counts-next : {m : List ℕ} → i < registrations → Stored (dispatched_row + i) 1 w m → at m (dispatch_count_row + i) ≡ dispatch_count_by F ev i
  counts-next l s = s.others (dispatch_count_row + i) (λ e. omega arith) ∙ renewed-next h.dispatch_count l

  pub counts-more : {n : ℕ} {m v : List ℕ} → i < registrations → year.listed (F.event ev).listing i ≡ true → n ≡ mark (one_or_three (F.event ev).period)
      → Stored (dispatched_row + i) 1 w m → Stored (dispatch_count_row + i) (at m (dispatch_count_row + i) + n) m v → Counts F ev (i + 1) w₀ v
  counts-more {n} {m} {v} l on e s t =
      record {
        upto = omega arith;
        long = t.long ∙ s.long ∙ h.long;
        aside = aside-more (aside-more h.aside s (omega arith) (omega arith)) t (omega arith) (omega arith);
        dispatch_count = renewed-more (renewed-kept h.dispatch_count s h.upto (λ a b. omega arith)) t (rw (counts-next l s, e) (dispatch-count-one F ev i on));
        dispatched = renewed-kept (renewed-more h.dispatched s (dispatched-one F ev i on)) t (omega arith) (λ a b. omega arith);
      }
