-- What entries that are picked are short and over, summed up by seller in two rows of the working table, and their sellers' shortfalls from these.
use Rattle.std.specs.Prelude.{ℕ, ◌+◌, ◌-◌, ◌≤◌, ◌<◌, ◌≡◌, refl, Bool, true, false, cond, Some, None, Ok, Err, List}
use Rattle.std.proofs.Common.{sym, arith}
use Rattle.std.proofs.lemmas.Option.{cond_some}
use Rattle.ids.specs.Ids.{at}
use Rattle.limits.specs.Limits.{registrations, sellers, nominated_limit, nominated_sum}
use Rattle.settle_table.specs.Places.{seller_row, committed_row, allotment_width}
use Rattle.year.specs.Year as year
use Rattle.owed.specs.Facts.{Facts}
use Rattle.owed.specs.Owed.{of_seller, unforced, short_of, over_of, shortfall_over}
use Rattle.owed_laws.specs.Limits.{Limits}
use Rattle.owed_laws.specs.Sellers.{of_seller-le, net-is}
use Rattle.owed_laws.specs.Bounds.{short-le, over-le}
use Rattle.settle_table.specs.Rows.{Stored, Row, Grown, none, row_same, row_kept, grown-first, grown-kept, grown-none, grown-more, grown-most}
use Rattle.year_cells.specs.Rows.{Off}
use Rattle.settle_table.specs.Columns.{Columns}
use Rattle.settle_shortfalls.specs.declared.Compared.{Compared}
use Rattle.settle_shortfalls.specs.declared.Net.{Net}

-- what is told where a test holds, and that nothing is told where it fails
pub told : {A : Type 0} {b : Bool} {e x : A} → Some x ≡ cond b (Some e) None → (b ≡ true) × (e ≡ x)
told {A} {b} {e} {x} q = cond_some b e x (sym q)

pub untold : {A : Type 0} {b : Bool} (e : A) → None ≡ cond b (Some e) None → b ≡ false
untold {b = true} e q = cc
untold {b = false} e q = refl

-- the same of what is told either way
pub told_ok : {A : Type 0} {b : Bool} {e x : A} → Ok x ≡ cond b (Ok e) (Err e) → (b ≡ true) × (e ≡ x)
told_ok {b = true} q = (refl, cc)
told_ok {b = false} q = cc

pub told_err : {A : Type 0} {b : Bool} (e : A) {x : A} → Err x ≡ cond b (Ok e) (Err e) → b ≡ false
told_err {b = true} e q = cc
told_err {b = false} e q = refl

-- a registration's reduction compared with what it committed: in the table, and by the rules
abbrev pub compare : List ℕ → ℕ → ℕ → Compared
compare w i r =
    record { seller = at w (seller_row + i); short = record { 0 = at w (committed_row + i) - r }; over = record { 0 = r - at w (committed_row + i) } }

abbrev pub compared_by : Facts → ℕ → ℕ → Compared
compared_by F i r =
    record { seller = F.seller i; short = record { 0 = year.committed F.terms i - r }; over = record { 0 = r - year.committed F.terms i } }

pub compare-is : {F : Facts} {w : List ℕ} → Columns F registrations w → (i r : ℕ) → i < registrations → compare w i r ≡ compared_by F i r
compare-is c i r l =
    let s = c.seller.is i l in
    let k = c.committed.is i l in
    λ j. record { seller = s j; short = record { 0 = k j - r }; over = record { 0 = r - k j } }

-- a seller's sums in the rows from p on and from p + 80 on, and its shortfall from these, with its deficit
abbrev pub net_of : Facts → List ℕ → ℕ → ℕ → ℕ → Net
net_of F w p s deficit =
    let short = at w (p + s) in
    let over = at w (p + allotment_width + s) in
    record { short = record { 0 = short }; over = record { 0 = over }; shortfall = record { 0 = unforced F (short - over) - deficit } }

-- reductions v of those that are picked; what they are short in the row from p on, what they are over in the one from q on
module _ (F : Facts) (picked : ℕ → Bool) (v : ℕ → ℕ) (p q : ℕ) where
  -- before entry i
  pub record Sums (i : ℕ) (w : List ℕ) : Type 0 where
    pub short : Grown w p sellers none F.seller (short_of F picked v) i
    pub over : Grown w q sellers none F.seller (over_of F picked v) i

  -- of all
  pub record Summed (w : List ℕ) : Type 0 where
    pub short : Row w p sellers (λ s. of_seller F s (short_of F picked v))
    pub over : Row w q sellers (λ s. of_seller F s (over_of F picked v))

  pub sums_first : {w : List ℕ} → Row w p sellers none → Row w q sellers none → Sums 0 w
  sums_first a b = record { short = grown-first F.seller (short_of F picked v) a; over = grown-first F.seller (over_of F picked v) b }

module _ {F : Facts} {picked : ℕ → Bool} {v : ℕ → ℕ} {p q i : ℕ} {w : List ℕ} (h : Sums F picked v p q i w) where
  pub sums_none : picked i ≡ false → Sums F picked v p q (i + 1) w
  sums_none z = record { short = grown-none h.short (rw z); over = grown-none h.over (rw z) }

  -- room for one more
  module _ (L : Limits F) (u : i ≤ registrations) (s : ℕ) (b : s < sellers) where
    pub short-room : at w (p + s) ≤ nominated_sum
    short-room = grown-most h.short 0 nominated_limit u (λ j a. omega arith) (λ j a. short-le L picked v j) s b

    pub over-room : ((j : ℕ) → v j ≤ nominated_limit) → at w (q + s) ≤ nominated_sum
    over-room most = grown-most h.over 0 nominated_limit u (λ j a. omega arith) (λ j a. over-le L picked most j) s b

  -- an entry that is picked
  pub sums-more : {m y : List ℕ} → p + sellers ≤ q → picked i ≡ true → F.seller i < sellers
      → Stored (p + F.seller i) (at w (p + F.seller i) + (year.committed F.terms i - v i)) w m
      → Stored (q + F.seller i) (at m (q + F.seller i) + (v i - year.committed F.terms i)) m y → Sums F picked v p q (i + 1) y
  sums-more a on l s1 s2 =
      record {
        short = grown-kept (grown-more h.short s1 l refl (rw on)) s2 (λ x y. omega arith);
        over = grown-more (grown-kept h.over s1 (λ x y. omega arith)) s2 l refl (rw on);
      }

  pub sums-all : i ≡ registrations → Summed F picked v p q w
  unfolding of_seller
  sums-all e = record { short = row_same (rw e at h.short.row) (λ j m. omega arith); over = row_same (rw e at h.over.row) (λ j m. omega arith) }

module _ {F : Facts} {picked : ℕ → Bool} {v : ℕ → ℕ} {p q : ℕ} {w : List ℕ} (h : Summed F picked v p q w) where
  -- what is stored elsewhere
  pub summed_kept : {k x : ℕ} {y : List ℕ} → Stored k x w y → Off p sellers k → Off q sellers k → Summed F picked v p q y
  summed_kept s a b = record { short = row_kept h.short s a; over = row_kept h.over s b }

  -- the sums are a seller's, and so is the shortfall from them
  module _ (s : ℕ) (l : s < sellers) where
    pub short-most : Limits F → at w (p + s) ≤ nominated_sum
    short-most L = rw (h.short.is s l) (of_seller-le F s nominated_limit (short-le L picked v))

    pub over-most : Limits F → ((j : ℕ) → v j ≤ nominated_limit) → at w (q + s) ≤ nominated_sum
    over-most L most = rw (h.over.is s l) (of_seller-le F s nominated_limit (over-le L picked most))

    pub shortfall-is : (d : ℕ → ℕ) {short over : ℕ} → short ≡ at w (p + s) → over ≡ at w (q + s) → unforced F (short - over) - d s ≡ shortfall_over F picked v d s
    unfolding shortfall_over
    shortfall-is d a b = rw (a, b, h.short.is s l, h.over.is s l, ← (net-is F s picked v))
