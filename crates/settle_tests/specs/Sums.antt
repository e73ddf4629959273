-- The sums of the tests' entries that stand, by group and seller: how they grow, and that they are each test's sums.
use Rattle.std.specs.Prelude.{ℕ, ◌+◌, ◌*◌, ◌-◌, ◌/◌, ◌≤◌, ◌<◌, ◌≡◌, Bool, ◌&&◌, Option, Some, None, List, eqb, length}
use Rattle.std.proofs.Math.Path.{refl}
use Rattle.std.proofs.Common.{◌∙◌, arith, zero-add, le_refl, mul-le-mul, eq-eqb, ne_eqb, eqb-true}
use Rattle.std.proofs.Math.Bool.{true, false, not, cond}
use Rattle.std.proofs.lemmas.Bool.{eqb-false}
use Rattle.ids.specs.Ids.{at, sum_to, only, keyed}
use Rattle.ids.specs.Sums.{sum_same}
use Rattle.ids.specs.Tests.{cond-le}
use Rattle.limits.specs.Limits.{registrations, sellers, test_groups, nominated_limit, nominated_sum, rate_limit}
use Rattle.year.specs.Year as year
use Rattle.year_cells.specs.Layout.{group_in, ValidCells}
use Rattle.year_tested.specs.Tested.{group-below}
use Rattle.owed.specs.Facts.{Facts}
use Rattle.owed.specs.Owed.{unforced, of_seller, dispatched, shortfall_over, test_shortfall, B, raised}
use Rattle.owed.specs.Owed as owed
use Rattle.owed_laws.specs.Limits.{limits}
use Rattle.owed_laws.specs.Sellers.{of_seller-le}
use Rattle.owed_laws.specs.Bounds.{committed-le, worth-le}
use Rattle.settle_facts.specs.CellFacts.{facts}
use Rattle.settle_table.specs.Rows.{Stored, Row, Grown, none, row_within, grown-first, grown-kept, grown-none, grown-more, grown-most}
use Rattle.settle_tests.specs.declared.sums.Addend.{Addend}
use Rattle.settle_table.specs.Places.{seller_row, committed_row, rate_row, group_row}
use Rattle.settle_tests.specs.Entries.{Ready, listed_at, result_at, stands, tested_at, result-at, reduction-le}

-- the sums by key, a group and a seller: what is committed, the reductions, and what is committed times its rate
abbrev pub keys : ℕ
keys = sellers * test_groups

abbrev pub committed_sum : ℕ
committed_sum = 0

abbrev pub reduction_sum : ℕ
reduction_sum = committed_sum + keys

abbrev pub worth_sum : ℕ
worth_sum = reduction_sum + keys

abbrev pub sums_width : ℕ
sums_width = worth_sum + keys

-- keys of a group and a seller are equal where both are
key-eqb : (p q : ℕ) {s t : ℕ} → s < sellers → t < sellers → eqb (sellers * p + s) (sellers * q + t) ≡ (eqb s t && eqb p q)
key-eqb p q {s} {t} l m = go (eqb s t) (eqb p q) refl refl
  where
    go : (a b : Bool) → eqb s t ≡ a → eqb p q ≡ b → eqb (sellers * p + s) (sellers * q + t) ≡ (a && b)
    go true true e f = eq-eqb (sellers * p + s) (sellers * q + t) (omega (arith, eqb-true s t e, eqb-true p q f))
    go true false e f = ne_eqb (sellers * p + s) (sellers * q + t) (λ z. eqb-false p q f (omega arith))
    go false b e f = ne_eqb (sellers * p + s) (sellers * q + t) (λ z. eqb-false s t e (omega arith))

module _ (c : List ℕ) where
  -- an entry's group and seller, and what it adds: committed kilowatts, its reduction, and committed kilowatts times their rate
  abbrev pub key_at : ℕ → ℕ
  key_at i = sellers * group_in c i + (facts c).seller i

  abbrev pub committed_at : ℕ → ℕ
  committed_at = only (stands c) (year.committed (facts c).terms)

  abbrev pub reduction_at : ℕ → ℕ
  reduction_at = only (stands c) (result_at c)

  abbrev pub worth_at : ℕ → ℕ
  worth_at = only (stands c) (λ i. year.committed (facts c).terms i * owed.rate (facts c) i)

  abbrev pub addend_of : ℕ → Addend
  addend_of i =
      record { key = key_at i; committed = record { 0 = year.committed (facts c).terms i }; reduction = record { 0 = result_at c i }; worth = year.committed (facts c).terms i * owed.rate (facts c) i }

  abbrev pub addend_at : ℕ → Option Addend
  addend_at i = cond (listed_at c i) (Some (addend_of i)) None

  -- what an answer of `addend_at` says
  pub addend-is : (i : ℕ) {x : Addend} → Some x ≡ addend_at i → x ≡ addend_of i
  addend-is i {x} = go (listed_at c i)
    where
      go : (b : Bool) → Some x ≡ cond b (Some (addend_of i)) None → x ≡ addend_of i
      go true e = cc
      go false e = cc

  pub addend-none : (i : ℕ) → None ≡ addend_at i → listed_at c i ≡ false
  addend-none i = go (listed_at c i)
    where
      go : (b : Bool) → None ≡ cond b (Some (addend_of i)) None → b ≡ false
      go true e = cc
      go false e = refl

  -- the sums of the first i entries, and of all
  pub record Summing (i : ℕ) (w : List ℕ) : Type 0 where
    pub long : length w ≡ sums_width
    pub committed : Grown w committed_sum keys none key_at committed_at i
    pub reduction : Grown w reduction_sum keys none key_at reduction_at i
    pub worth : Grown w worth_sum keys none key_at worth_at i

  abbrev pub Summed : List ℕ → Type 0
  Summed w = Summing registrations w

  pub summing-first : {w : List ℕ} → length w ≡ sums_width → Row w 0 sums_width none → Summing 0 w
  summing-first l r =
      record {
        long = l;
        committed = grown-first key_at committed_at (row_within committed_sum keys r (omega arith) (omega arith));
        reduction = grown-first key_at reduction_at (row_within reduction_sum keys r (omega arith) (omega arith));
        worth = grown-first key_at worth_at (row_within worth_sum keys r (omega arith) (omega arith));
      }

  module _ {i : ℕ} {w : List ℕ} (h : Summing i w) where
    pub summing-none : stands c i ≡ false → Summing (i + 1) w
    summing-none off =
        record {
          long = h.long;
          committed = grown-none h.committed (rw off);
          reduction = grown-none h.reduction (rw off);
          worth = grown-none h.worth (rw off);
        }

    pub summing-more : {m n v : List ℕ} → stands c i ≡ true → key_at i < keys → let x = addend_of i in
        Stored (committed_sum + x.key) (at w (committed_sum + x.key) + x.committed.0) w m → Stored (reduction_sum + x.key) (at m (reduction_sum + x.key) + x.reduction.0) m n
        → Stored (worth_sum + x.key) (at n (worth_sum + x.key) + x.worth) n v → Summing (i + 1) v
    summing-more on l s₁ s₂ s₃ =
        record {
          long = s₃.long ∙ s₂.long ∙ s₁.long ∙ h.long;
          committed = grown-kept (grown-kept (grown-more h.committed s₁ l refl (rw on)) s₂ (λ a b. omega arith)) s₃ (λ a b. omega arith);
          reduction = grown-kept (grown-more (grown-kept h.reduction s₁ (λ a b. omega arith)) s₂ l refl (rw on)) s₃ (λ a b. omega arith);
          worth = grown-more (grown-kept (grown-kept h.worth s₁ (λ a b. omega arith)) s₂ (λ a b. omega arith)) s₃ l refl (rw on);
        }

pub key_below : {c : List ℕ} → ValidCells c → (i : ℕ) → key_at c i < keys
key_below {c} H i = omega (arith, group-below c H.sound i, (limits H.sound).seller i)

-- what the table has of an entry, within limits
module _ {c : List ℕ} (H : ValidCells c) {w : List ℕ} (r : Ready c w) {i : ℕ} (l : i < registrations) where
  pub committed-in : at w (committed_row + i) ≤ nominated_limit
  committed-in = rw (r.columns.committed.is i l) ((limits H.sound).committed i)

  pub rate-in : at w (rate_row + i) ≤ rate_limit
  rate-in = rw (r.columns.rate.is i l) ((limits H.sound).rate i)

  pub group-in : at w (group_row + i) < test_groups
  group-in = rw (r.group.is i l) (group-below c H.sound i)

  pub seller-in : at w (seller_row + i) < sellers
  seller-in = rw (r.columns.seller.is i l) ((limits H.sound).seller i)

pub ruleset terms_in = (committed-in, rate-in, group-in, seller-in)

-- room for one more
module _ {c : List ℕ} (H : ValidCells c) {i : ℕ} (b : i ≤ registrations) {w : List ℕ} (h : Summing c i w) (k : ℕ) (m : k < keys) where
  pub committed-room : at w (committed_sum + k) ≤ nominated_sum
  committed-room =
      grown-most h.committed 0 nominated_limit b (λ j l. le_refl 0) (λ j l. cond-le (stands c j) ((limits H.sound).committed j)) k m

  pub reduction-room : at w (reduction_sum + k) ≤ nominated_sum
  reduction-room =
      grown-most h.reduction 0 nominated_limit b (λ j l. le_refl 0) (λ j l. reduction-le H j (omega arith)) k m

  pub worth-room : at w (worth_sum + k) ≤ (nominated_sum * rate_limit)
  worth-room =
      grown-most h.worth 0 10000000000 b (λ j l. le_refl 0)
      (λ j l. cond-le (stands c j) (mul-le-mul ((limits H.sound).committed j) ((limits H.sound).rate j))) k m

-- what the test of group p charges seller s for so many days
abbrev pub charge_over : Facts → ℕ → ℕ → ℕ → ℕ
charge_over F p s days = test_shortfall F p s * raised (B F p s) * days / 1000

-- the sums are those of each test's entries
module _ {c : List ℕ} (H : ValidCells c) {p s : ℕ} (l : p < test_groups) (m : s < sellers) where
  abbrev F : Facts
  F = facts c

  sums_same : (g h : ℕ → ℕ) → ((i : ℕ) → i < registrations → year.listed (F.test p).listing i ≡ true → h i ≡ g i)
      → sum_to registrations (keyed (key_at c) (only (stands c) h) (sellers * p + s)) ≡ of_seller F s (only (owed.stands F p) g)
  unfolding of_seller stands
  sums_same g h e =
      sum_same registrations (λ i b. rw (key-eqb (group_in c i) p ((limits H.sound).seller i) m)
      (go (eqb (F.seller i) s) (eqb (group_in c i) p) (listed_at c i) (dispatched F i) (year.listed (F.test p).listing i) (tested_at H p b) (g i) (h i) (e i b)))
    where
      parts : (a b m d : Bool) (x y : ℕ) → ((m && b) ≡ true → y ≡ x) → cond (a && b) (cond (m && not d) y 0) 0 ≡ cond a (cond ((m && b) && not d) x 0) 0
      parts false b m d x y e = refl
      parts true false true d x y e = refl
      parts true false false d x y e = refl
      parts true true false d x y e = refl
      parts true true true true x y e = refl
      parts true true true false x y e = e refl

      go : (a b m d t : Bool) → t ≡ (m && b) → (x y : ℕ) → (t ≡ true → y ≡ x)
          → cond (a && b) (cond (m && not d) y 0) 0 ≡ cond a (cond (t && not d) x 0) 0
      go a b m d t q x y e = rw q (parts a b m d x y (λ z. e (q ∙ z)))

  module _ {w : List ℕ} (S : Summed c w) where
    abbrev k : ℕ
    k = sellers * p + s

    pub committed-is : at w (committed_sum + k) ≡ of_seller F s (only (owed.stands F p) (year.committed F.terms))
    committed-is = S.committed.row.is k (omega arith) ∙ zero-add _ ∙ sums_same (year.committed F.terms) (year.committed F.terms) (λ i b e. refl)

    pub reduction-is : at w (reduction_sum + k) ≡ of_seller F s (only (owed.stands F p) (owed.result F p))
    reduction-is = S.reduction.row.is k (omega arith) ∙ zero-add _ ∙ sums_same (owed.result F p) (result_at c) (λ i b e. result-at H p b e)

    pub worth-is : at w (worth_sum + k) ≡ of_seller F s (only (owed.stands F p) (λ i. year.committed F.terms i * owed.rate F i))
    worth-is =
        S.worth.row.is k (omega arith) ∙ zero-add _
        ∙ sums_same (λ i. year.committed F.terms i * owed.rate F i) (λ i. year.committed F.terms i * owed.rate F i) (λ i b e. refl)

    -- within limits
    pub committed-most : at w (committed_sum + k) ≤ nominated_sum
    committed-most = rw committed-is (committed-le (limits H.sound) (owed.stands F p) s)

    pub reduction-most : at w (reduction_sum + k) ≤ nominated_sum
    reduction-most =
        rw reduction-is (of_seller-le F s nominated_limit (λ i. cond-le (owed.stands F p i) ((limits H.sound).result p i)))

    pub worth-most : at w (worth_sum + k) ≤ at w (committed_sum + k) * rate_limit
    worth-most = rw (worth-is, committed-is) (worth-le (limits H.sound) (owed.stands F p) s)

    -- step 1 and B, from them
    module _ {a : ℕ} (e : a ≡ at w (committed_sum + k)) where
      pub shortfall-is : {b : ℕ} → b ≡ at w (reduction_sum + k) → unforced F (a - b) - year.deficit (F.test p).listing s ≡ test_shortfall F p s
      unfolding shortfall_over
      shortfall-is f = rw (e, f, committed-is, reduction-is)

      pub base-is : at w (worth_sum + k) / a ≡ B F p s
      unfolding B
      base-is = rw (e, worth-is, committed-is)

pub ruleset sums_most = (committed-most, reduction-most, worth-most)
