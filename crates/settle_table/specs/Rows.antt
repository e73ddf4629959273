-- Rows of a table of numbers: what a store does to a row, and sums by key that grow in one. These laws hold of any table.
use Rattle.std.specs.Prelude.{ℕ, ◌+◌, ◌*◌, ◌-◌, ◌≤◌, ◌<◌, ◌≡◌, refl, Bool, true, false, cond, List, eqb, length}
use Rattle.std.proofs.Common.{sym, ◌∙◌, arith, mul-le-mul_right, eq-eqb, ne_eqb, eqb-true}
use Rattle.std.proofs.lemmas.Bool.{eqb-false}
use Rattle.ids.specs.Ids.{at, sum_to, keyed}
use Rattle.ids.specs.Sums.{sum_step, sum_bound}
use Rattle.ids.specs.Tests.{cond-le}
use Rattle.limits.specs.Limits.{registrations}
use Rattle.year_cells.specs.Rows.{Off}

-- v is w with x at q
pub record Stored (q x : ℕ) (w v : List ℕ) : Type 0 where
  pub long : length v ≡ length w
  pub here : at v q ≡ x
  pub others : (k : ℕ) → (k ≡ q → ⊥) → at v k ≡ at w k

-- v is w but for the n cells from p on
pub record Aside (p n : ℕ) (w v : List ℕ) : Type 0 where
  pub long : length v ≡ length w
  pub outside : (k : ℕ) → Off p n k → at v k ≡ at w k

pub aside_none : {p n : ℕ} {w : List ℕ} → Aside p n w w
aside_none = record { long = refl; outside = λ k o. refl }

-- two after one another, within one
pub aside_then : {p n p' n' q m : ℕ} {u w v : List ℕ} → Aside p n u w → Aside p' n' w v → q ≤ p → p + n ≤ q + m → q ≤ p' → p' + n' ≤ q + m → Aside q m u v
aside_then h g a b c d =
    record { long = g.long ∙ h.long; outside = λ k o. g.outside k (λ x y. o (omega arith) (omega arith)) ∙ h.outside k (λ x y. o (omega arith) (omega arith)) }

pub aside-of : {q x : ℕ} {w v : List ℕ} → Stored q x w v → Aside q 1 w v
aside-of s = record { long = s.long; outside = λ k o. s.others k (λ e. o (omega arith) (omega arith)) }

pub aside-more : {p n q x : ℕ} {u w v : List ℕ} → Aside p n u w → Stored q x w v → p ≤ q → q < p + n → Aside p n u v
aside-more h s a b = aside_then h (aside-of s) (omega arith) (omega arith) a (omega arith)

-- the n cells from p on hold f
pub record Row (w : List ℕ) (p n : ℕ) (f : ℕ → ℕ) : Type 0 where
  pub is : (j : ℕ) → j < n → at w (p + j) ≡ f j

module _ {w : List ℕ} {p n : ℕ} {f : ℕ → ℕ} (r : Row w p n f) where
  pub row-aside : {q m : ℕ} {v : List ℕ} → Aside q m w v → ((j : ℕ) → j < n → Off q m (p + j)) → Row v p n f
  row-aside h o = record { is = λ j l. h.outside (p + j) (o j l) ∙ r.is j l }

  pub row_kept : {q x : ℕ} {v : List ℕ} → Stored q x w v → Off p n q → Row v p n f
  row_kept s o = row-aside (aside-of s) (λ j l a b. o (omega arith) (omega arith))

  pub row_same : {g : ℕ → ℕ} → ((j : ℕ) → j < n → f j ≡ g j) → Row w p n g
  row_same h = record { is = λ j l. r.is j l ∙ h j l }

-- one cell of a row is stored
pub row-set : {w v : List ℕ} {p n i x : ℕ} {g : ℕ → ℕ} → Stored (p + i) x w v → x ≡ g i → ((j : ℕ) → j < n → (j ≡ i → ⊥) → at w (p + j) ≡ g j) → Row v p n g
row-set {w} {v} {p} {n} {i} {x} {g} s e o = record { is = λ j l. go j l (eqb j i) refl }
  where
    go : (j : ℕ) → j < n → (t : Bool) → eqb j i ≡ t → at v (p + j) ≡ g j
    go j l true q = rw (eqb-true j i q) (s.here ∙ e)
    go j l false q = let z = eqb-false j i q in s.others (p + j) (λ a. z (omega arith)) ∙ o j l z

-- a part of a row of one value
pub row_within : {w : List ℕ} {p n x : ℕ} (q m : ℕ) → Row w p n (λ i. x) → p ≤ q → q + m ≤ p + n → Row w q m (λ i. x)
row_within {p = p} q m r a b =
    record { is = λ j l. let z : q + j ≡ p + (q + j - p) = omega arith in rw z (r.is (q + j - p) (omega arith)) }

-- a row that is filled from its front
pub row_first : (w : List ℕ) (p : ℕ) (f : ℕ → ℕ) → Row w p 0 f
row_first w p f = record { is = λ j l. absurd (omega arith) }

pub row_more : {w v : List ℕ} {p n x : ℕ} {f : ℕ → ℕ} → Row w p n f → Stored (p + n) x w v → x ≡ f n → Row v p (n + 1) f
row_more r s e = row-set s e (λ j l o. r.is j (omega arith))

-- nothing; a mark
abbrev pub none : ℕ → ℕ
none i = 0

abbrev pub mark : Bool → ℕ
mark b = cond b 1 0

pub mark-true : {x : ℕ} (b : Bool) → x ≡ mark b → (x ≡ 0 → ⊥) → b ≡ true
mark-true true e z = refl
mark-true false e z = absurd (z e)

pub mark-false : {x : ℕ} (b : Bool) → x ≡ mark b → x ≡ 0 → b ≡ false
mark-false true e z = absurd (omega arith)
mark-false false e z = refl

-- the n cells from p on hold b and the sums by key of f at the first i ids
pub record Grown (w : List ℕ) (p n : ℕ) (b key f : ℕ → ℕ) (i : ℕ) : Type 0 where
  pub row : Row w p n (λ k. b k + sum_to i (keyed key f k))

pub grown-first : {w : List ℕ} {p n : ℕ} {b : ℕ → ℕ} (key f : ℕ → ℕ) → Row w p n b → Grown w p n b key f 0
unfolding sum_to
grown-first key f r = record { row = row_same r (λ k l. omega arith) }

module _ {w : List ℕ} {p n : ℕ} {b key f : ℕ → ℕ} {i : ℕ} (r : Grown w p n b key f i) where
  pub grown-kept : {q x : ℕ} {v : List ℕ} → Stored q x w v → Off p n q → Grown v p n b key f i
  grown-kept s o = record { row = row_kept r.row s o }

  -- an id that adds nothing, and one that adds at its key
  pub grown-none : f i ≡ 0 → Grown w p n b key f (i + 1)
  grown-none z =
      record { row = row_same r.row (λ k l. omega (arith, sum_step i (keyed key f k), cond-le (eqb (key i) k) {x = f i} {b = 0} (omega arith))) }

  pub grown-more : {x y : ℕ} {v : List ℕ} → Stored (p + key i) x w v → key i < n → x ≡ at w (p + key i) + y → y ≡ f i → Grown v p n b key f (i + 1)
  grown-more {x} {y} s m e d =
      record {
        row = row-set s (omega (arith, r.row.is (key i) m, sum_step i (keyed key f (key i)), own))
            (λ j l o. omega (arith, r.row.is j l, sum_step i (keyed key f j), other j o));
      }
    where
      own : keyed key f (key i) i ≡ y
      own = rw (eq-eqb (key i) (key i) refl) (sym d)

      other : (j : ℕ) → (j ≡ key i → ⊥) → keyed key f j i ≡ 0
      other j o = rw (ne_eqb (key i) j (λ a. o (sym a)))

  pub grown-most : (B c : ℕ) → i ≤ registrations → ((j : ℕ) → j < n → b j ≤ B) → ((j : ℕ) → j < i → f j ≤ c) → (k : ℕ) → k < n → at w (p + k) ≤ B + registrations * c
  grown-most B c l hb hf k m =
      omega (arith, r.row.is k m, hb k m, sum_bound i c (keyed key f k) (λ j q. cond-le (eqb (key j) k) (hf j q)), mul-le-mul_right c l)

-- of the n cells from p on the first i hold f, and the others still g
pub record Renewed (w : List ℕ) (p n : ℕ) (f g : ℕ → ℕ) (i : ℕ) : Type 0 where
  pub done : Row w p i f
  pub ahead : (j : ℕ) → i ≤ j → j < n → at w (p + j) ≡ g j

pub renewed-first : {w : List ℕ} {p n : ℕ} {g : ℕ → ℕ} (f : ℕ → ℕ) → Row w p n g → Renewed w p n f g 0
renewed-first {w} {p} f r = record { done = row_first w p f; ahead = λ j a l. r.is j l }

module _ {w : List ℕ} {p n : ℕ} {f g : ℕ → ℕ} {i : ℕ} (r : Renewed w p n f g i) where
  pub renewed-aside : {q m : ℕ} {v : List ℕ} → Aside q m w v → i ≤ n → ((j : ℕ) → j < n → Off q m (p + j)) → Renewed v p n f g i
  renewed-aside h u o =
      record { done = row-aside r.done h (λ j l. o j (omega arith)); ahead = λ j a l. h.outside (p + j) (o j l) ∙ r.ahead j a l }

  pub renewed-kept : {q x : ℕ} {v : List ℕ} → Stored q x w v → i ≤ n → Off p n q → Renewed v p n f g i
  renewed-kept s m o = renewed-aside (aside-of s) m (λ j l a b. o (omega arith) (omega arith))

  -- the next cell: what it holds, stored anew, or left as it is
  pub renewed-next : i < n → at w (p + i) ≡ g i
  renewed-next l = r.ahead i (omega arith) l

  pub renewed-more : {x : ℕ} {v : List ℕ} → Stored (p + i) x w v → x ≡ f i → Renewed v p n f g (i + 1)
  renewed-more s e =
      record { done = row_more r.done s e; ahead = λ j a l. s.others (p + j) (λ z. omega arith) ∙ r.ahead j (omega arith) l }

  pub renewed-none : i < n → g i ≡ f i → Renewed w p n f g (i + 1)
  renewed-none m e = renewed-more (record { long = refl; here = refl; others = λ k o. refl }) (renewed-next m ∙ e)
