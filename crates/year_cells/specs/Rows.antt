-- A list of numbers ('cells'): rows that are laid into it, and views that read a row of it. These laws hold of any layout.
use Rattle.std.specs.Prelude.{ℕ, ◌+◌, ◌*◌, ◌-◌, ◌≤◌, ◌<◌, ◌≡◌, refl, List, [], ◌∷◌, ◌++◌, ◌≢◌, length, get_or, set, replicate}
use Rattle.std.proofs.Common.{ap, sym, ◌∙◌, arith, mul-le-mul_left, mul-suc, add-zero, lit<, length-set, length-append, get_or-set_same, get_or-set_other, get_or-append-add}
use Rattle.std.proofs.Math.Decide.{dec_lt}
use Rattle.std.proofs.lemmas.List.{length-replicate, get_or-replicate}
use Rattle.std.proofs.Math.ListN.{get_or-append}
use Rattle.ids.specs.Ids.{at, tabulate}
use Rattle.ids.specs.Tables.{length-tabulate, get_or-tabulate, is-tabulate, tabulate-same}

-- is cell k none of the w cells from p on
abbrev pub Off : ℕ → ℕ → ℕ → Type 0
Off p w k = p ≤ k → k < p + w → ⊥

-- d is c with the row r from place p on
pub record Laid (p : ℕ) (r c d : List ℕ) : Type 0 where
  pub long : length d ≡ length c
  pub inside : (k : ℕ) → k < length r → at d (p + k) ≡ at r k
  pub outside : (k : ℕ) → Off p (length r) k → at d k ≡ at c k

-- two rows, one behind the other, are one
pub laid_on : {p : ℕ} {r s c d e : List ℕ} → Laid p r c d → Laid (p + length r) s d e → Laid p (r ++ s) c e
laid_on {p} {r} {s} {c} {d} {e} h i =
    record {
      long = i.long ∙ h.long;
      inside = λ k l. go k (dec_lt k (length r)) (rw (length-append r s) at l);
      outside = λ k o. i.outside k (λ a b. o (omega arith) (omega (arith, length-append r s))) ∙ h.outside k (λ a b. o a (omega (arith, length-append r s)));
    }
  where
    go : (k : ℕ) → Dec (k < length r) → k < length r + length s → at e (p + k) ≡ at (r ++ s) k
    go k (yes b) l = i.outside (p + k) (λ x z. omega arith) ∙ h.inside k b ∙ sym (get_or-append r s 0 k b)
    go k (no b) l =
        let z : k ≡ length r + (k - length r) = omega arith in
        let q : p + k ≡ p + length r + (k - length r) = omega arith in
        ap (at e) q ∙ i.inside (k - length r) (omega arith) ∙ sym (ap (at (r ++ s)) z ∙ get_or-append-add r s (k - length r) 0)

-- the w cells from q on are the same in c and d
pub record Same (q w : ℕ) (c d : List ℕ) : Type 0 where
  pub cell : (k : ℕ) → k < w → at d (q + k) ≡ at c (q + k)

pub same-on : {q w : ℕ} {c d e : List ℕ} → Same q w c d → Same q w d e → Same q w c e
same-on g h = record { cell = λ k l. h.cell k l ∙ g.cell k l }

-- a part of them
pub same_in : (q w : ℕ) {p v : ℕ} {c d : List ℕ} → p ≤ q → q + w ≤ p + v → Same p v c d → Same q w c d
same_in q w {p} a b h =
    record { cell = λ k l. let z : q + k ≡ p + (q + k - p) = omega arith in rw z (h.cell (q + k - p) (omega arith)) }

module _ {p : ℕ} {r c d : List ℕ} (h : Laid p r c d) where
  -- cells before what is laid, and behind it
  pub same-before : (q w : ℕ) → q + w ≤ p → Same q w c d
  same-before q w m = record { cell = λ k l. h.outside (q + k) (λ a b. omega arith) }

  pub same-behind : (q w : ℕ) → p + length r ≤ q → Same q w c d
  same-behind q w m = record { cell = λ k l. h.outside (q + k) (λ a b. omega arith) }

-- what a view is given: the cells from a place on
abbrev pub from : ℕ → List ℕ → ℕ → ℕ
from p c k = at c (p + k)

-- a view reads w cells
abbrev pub View : {A : Type 0} → ℕ → ((ℕ → ℕ) → A) → Type 0
View w f = (g h : ℕ → ℕ) → ((k : ℕ) → k < w → g k ≡ h k) → f g ≡ f h

-- a table of n rows, w cells each, from place q on
abbrev pub rows : {A : Type 0} → ((ℕ → ℕ) → A) → ℕ → ℕ → ℕ → List ℕ → List A
rows f w n q c = tabulate n (λ i. f (from (q + w * i) c))

-- numbers that stay
pub numbers-kept : (n q : ℕ) {c d : List ℕ} → Same q n c d → tabulate n (from q d) ≡ tabulate n (from q c)
numbers-kept n q s = tabulate-same n s.cell

-- row i of n rows, each of w cells, is within them
within : (w n i k : ℕ) → i < n → k < w → w * i + k < w * n
within w n i k l m = omega (arith, mul-suc w i, mul-le-mul_left w l)

pub same_row : (q w n i : ℕ) {c d : List ℕ} → i < n → Same q (w * n) c d → Same (q + w * i) w c d
same_row q w n i l s =
    record { cell = λ k m. let z : q + w * i + k ≡ q + (w * i + k) = omega arith in rw z (s.cell (w * i + k) (within w n i k l m)) }

module _ {A : Type 0} {f : (ℕ → ℕ) → A} {w : ℕ} (v : View w f) where
  -- a table that stays
  pub rows-kept : (n q : ℕ) {c d : List ℕ} → Same q (w * n) c d → rows f w n q d ≡ rows f w n q c
  rows-kept n q s = tabulate-same n (λ i l. v _ _ (same_row q w n i l s).cell)

  -- a table one row of which is laid has that row anew
  pub rows-laid : (n q i : ℕ) {r c d : List ℕ} → i < n → length r ≡ w → Laid (q + w * i) r c d → rows f w n q d ≡ set (rows f w n q c) i (f (at r))
  rows-laid n q i {r} {c} {d} l e h =
      sym (is-tabulate (λ j. f (from (q + w * j) d)) n (f (at r)) (set (rows f w n q c) i (f (at r)))
      (length-set (rows f w n q c) i (f (at r)) ∙ length-tabulate (λ j. f (from (q + w * j) c)) n)
      (λ j m. go j m (dec_lt j i) (dec_lt i j)))
    where
      old : (j : ℕ) → j < n → j ≢ i → Same (q + w * j) w c d
          → get_or (set (rows f w n q c) i (f (at r))) j (f (at r)) ≡ f (from (q + w * j) d)
      old j m o s =
          get_or-set_other (rows f w n q c) i j (f (at r)) (f (at r)) o
          ∙ get_or-tabulate (λ j. f (from (q + w * j) c)) n j (f (at r)) m
          ∙ v _ _ (λ k u. sym (s.cell k u))

      go : (j : ℕ) → j < n → Dec (j < i) → Dec (i < j) → get_or (set (rows f w n q c) i (f (at r))) j (f (at r)) ≡ f (from (q + w * j) d)
      go j m (yes b) y = old j m (λ z. omega arith) (same-before h (q + w * j) w (omega (arith, mul-suc w j, mul-le-mul_left w b)))
      go j m (no a) (yes b) = old j m (λ z. omega arith) (same-behind h (q + w * j) w (omega (arith, mul-suc w i, mul-le-mul_left w b)))
      go j m (no a) (no b) =
          let z : j ≡ i = omega arith in
          rw z (get_or-set_same (rows f w n q c) i (f (at r)) (f (at r)) (omega (arith, length-tabulate (λ j. f (from (q + w * j) c)) n))
          ∙ v _ _ (λ k u. sym (h.inside k (omega arith))))

  -- a row of a table
  pub row_at : (n q i : ℕ) (c : List ℕ) (d : A) → i < n → get_or (rows f w n q c) i d ≡ f (from (q + w * i) c)
  row_at n q i c d l = get_or-tabulate (λ j. f (from (q + w * j) c)) n i d l

-- one number laid by a store
pub laid-set : {p v : ℕ} {c : List ℕ} → p < length c → Laid p (v ∷ []) c (set c p v)
laid-set {p} {v} {c} l =
    record {
      long = length-set c p v;
      inside = λ k m. let z : k ≡ 0 = omega arith in rw (z, add-zero p) (get_or-set_same c p v 0 l);
      outside = λ k o. get_or-set_other c p k v 0 (λ e. o (omega arith) (omega arith));
    }

-- a table of what is read of single cells, one of which is laid
pub cells-laid : {A : Type 0} (f : ℕ → A) (n q i : ℕ) {v : ℕ} {c d : List ℕ} → i < n → Laid (q + i) (v ∷ []) c d → tabulate n (λ j. f (at d (q + j))) ≡ set (tabulate n (λ j. f (at c (q + j)))) i (f v)
cells-laid {A} f n q i {v} {c} {d} l h =
    let z : 1 * i ≡ i = omega arith in
    let laid : Laid (q + 1 * i) (v ∷ []) c d = rw z h in
    sym (one d) ∙ rows-laid {f = λ g. f (g 0)} {w = 1} (λ g h e. ap f (e 0 (lit< tt))) n q i l refl laid ∙ ap (λ (x : List A). set x i (f v)) (one c)
  where
    one : (c : List ℕ) → rows (λ g. f (g 0)) 1 n q c ≡ tabulate n (λ j. f (at c (q + j)))
    one c = tabulate-same n (λ j m. let z : q + 1 * j + 0 ≡ q + j = omega arith in rw z)

-- numbers all of which are laid
pub numbers-anew : {n q : ℕ} (r : List ℕ) {c d : List ℕ} → length r ≡ n → Laid q r c d → tabulate n (from q d) ≡ r
numbers-anew {n} {q} r {c} {d} e h = sym (is-tabulate (from q d) n 0 r e (λ i m. sym (h.inside i (omega arith))))

-- a table of one value
pub table_of : {A : Type 0} {f : ℕ → A} {x : A} (n : ℕ) → ((i : ℕ) → i < n → f i ≡ x) → tabulate n f ≡ replicate n x
table_of {f = f} {x} n e = sym (is-tabulate f n x (replicate n x) (length-replicate n x) (λ i m. get_or-replicate n i x x m ∙ sym (e i m)))
