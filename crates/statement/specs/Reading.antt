-- Fields as they are read back: the line of an id that passes stands behind the lines of those before it.
use Prim.Native.Nat.{ℕ, zero, suc, ◌+◌, ◌*◌, ◌≤◌, ◌<◌}
use Rattle.std.specs.Prelude.{Bool, false, cond, List, [], ◌∷◌, ◌++◌, ◌≡◌, refl, eqb, ℤ, pos, ◌+ℤ◌}
use Rattle.std.proofs.Math.Bool.{true}
use Rattle.std.proofs.Math.Logic.{inl, inr}
use Rattle.std.proofs.Math.Path.{ap}
use Rattle.std.proofs.Common.{sym, ◌∙◌, arith, add-zero, add_assoc, eq-or-lt_of_le, le_of_suc-le-suc, not-suc-le-zero, add-one, eq-eqb, ne_eqb}
use Rattle.std.proofs.Math.Decide.{dec_lt}
use Rattle.std.proofs.Math.IntN.{+ℤ_idl, +ℤ_idr}
use Rattle.ids.specs.Ids.{sum_to, count_to, tabulate}
use Rattle.ids.specs.Sums.{sum_mono}
use Rattle.bits.specs.Bits.{field_at}
use Rattle.bits.specs.Table.{fields_at}
use Rattle.statement.specs.Statement.{Field, widths_of, values_of, amount_field, line_fields, lines_to}
use Rattle.statement.specs.Lines.{bits_in, lines-bits, amounts-bits}
use Rattle.statement.specs.ReadBack.{sumℤ}

-- the fields from p on have these values
abbrev pub Holds : List ℕ → ℕ → List Field → Type 0
Holds xs p [] = Unit
Holds xs p (f ∷ fs) = (field_at xs p f.0 ≡ f.1) × Holds xs (p + f.0) fs

module _ (xs : List ℕ) where
  pub holds-all : (p : ℕ) (fs : List Field) → fields_at xs p (widths_of fs) ≡ values_of fs → Holds xs p fs
  holds-all p [] e = tt
  holds-all p (f ∷ fs) e =
      let a : field_at xs p f.0 ≡ f.1 = cc in
      let b : fields_at xs (p + f.0) (widths_of fs) ≡ values_of fs = cc in
      (a, holds-all (p + f.0) fs b)

  pub holds-split : (p : ℕ) (a b : List Field) → Holds xs p (a ++ b) → Holds xs p a × Holds xs (p + bits_in a) b
  holds-split p [] b h = (tt, rw (add-zero p) h)
  holds-split p (f ∷ a) b h =
      let r = holds-split (p + f.0) a b h.1 in
      ((h.0, r.0), rw (← add_assoc p f.0 (bits_in a)) r.1)

  -- lines from p on
  pub holds-line : (p n : ℕ) (now before : List ℕ) (q : ℕ → Bool) (m : ℕ) → Holds xs p (lines_to m q (line_fields n now before))
      → (i : ℕ) → i < m → q i ≡ true → Holds xs (p + (4 + 42 * n) * count_to i q) (line_fields n now before i)
  unfolding lines_to
  holds-line p n now before q zero h i l e = absurd (not-suc-le-zero l)
  holds-line p n now before q (suc m) h i l e =
      let r = holds-split p (lines_to m q (line_fields n now before)) (cond (q m) (line_fields n now before m) []) h in
      elim (eq-or-lt_of_le (le_of_suc-le-suc l)) [
        | inl z ↦
            let last : q m ≡ true = ap q (sym z) ∙ e in
            rw z (rw (lines-bits n now before q m, last) at r.1)
        | inr k ↦ holds-line p n now before q m r.0 i k e
      ]

  -- amounts from p on
  pub holds-amount : (p n : ℕ) (now before : List ℕ) (i : ℕ) → Holds xs p (tabulate n (amount_field now before i))
      → (k : ℕ) → k < n → field_at xs (p + 42 * k) 42 ≡ (amount_field now before i k).1
  unfolding tabulate
  holds-amount p zero now before i h k l = absurd (not-suc-le-zero l)
  holds-amount p (suc n) now before i h k l =
      let r = holds-split p (tabulate n (amount_field now before i)) (amount_field now before i n ∷ []) h in
      elim (eq-or-lt_of_le (le_of_suc-le-suc l)) [
        | inl z ↦ rw z (rw (amounts-bits n now before i) at r.1.0)
        | inr m ↦ holds-amount p n now before i r.0 k m
      ]

-- as many pass before one that passes as its place among them
pub count-below : (n : ℕ) (q : ℕ → Bool) (i : ℕ) → i < n → q i ≡ true → count_to i q < count_to n q
unfolding sum_to
count-below n q i l e =
    let up : count_to (suc i) q ≤ count_to n q = sum_mono {i = suc i} {n = n} (λ j. cond (q j) 1 0) l in
    let one : count_to (suc i) q ≡ count_to i q + 1 = rw e in
    omega arith

pub count-mono : (q : ℕ → Bool) (i n : ℕ) → i ≤ n → count_to i q ≤ count_to n q
count-mono q i n l = sum_mono {i = i} {n = n} (λ j. cond (q j) 1 0) l

-- the k-th of the ids that pass
pub nth : (n : ℕ) (q : ℕ → Bool) (k : ℕ) → k < count_to n q → (i : ℕ) × (i < n) × (q i ≡ true) × (count_to i q ≡ k)
unfolding sum_to
nth zero q k l = absurd (not-suc-le-zero l)
nth (suc n) q k l = go (q n) refl l (nth n q k)
  where
    go : (b : Bool) → q n ≡ b → k < count_to n q + cond b 1 0
        → (k < count_to n q → (i : ℕ) × (i < n) × (q i ≡ true) × (count_to i q ≡ k)) → (i : ℕ) × (i < suc n) × (q i ≡ true) × (count_to i q ≡ k)
    go true e m h = elim (dec_lt k (count_to n q)) [
      | yes y ↦ let r = h y in (r.0, omega (arith, r.1), r.2, r.3)
      | no y ↦ (n, omega arith, e, omega arith)
    ]
    go false e m h = let r = h (omega arith) in (r.0, omega (arith, r.1), r.2, r.3)

-- lines with an id each, that of an id that passes standing in its place
module _ (n : ℕ) (q : ℕ → Bool) (id : ℕ → ℕ) (own : (i : ℕ) → i < n → q i ≡ true → id (count_to i q) ≡ i) where
  pub line-id : (k : ℕ) → k < count_to n q → (id k < n) × (q (id k) ≡ true) × (count_to (id k) q ≡ k)
  line-id k l =
      let r = nth n q k l in
      let e : id k ≡ r.0 = ap id (sym r.3) ∙ own r.0 r.1 r.2 in
      (rw e r.1, rw e r.2, rw e r.3)

  pub line-rising : (i j : ℕ) → i < j → j < count_to n q → id i < id j
  line-rising i j l m =
      let a = line-id i (omega arith) in
      let b = line-id j m in
      elim (dec_lt (id i) (id j)) [
        | yes y ↦ y
        | no y ↦ absurd (omega (arith, count-mono q (id j) (id i) (omega arith), a.2, b.2))
      ]

-- a sum over lines, by the ids that they are of
pub sum-lines : (n : ℕ) (q : ℕ → Bool) (g h : ℕ → ℤ) → ((i : ℕ) → i < n → q i ≡ true → g (count_to i q) ≡ h i)
    → sumℤ (count_to n q) g ≡ sumℤ n (λ i. cond (q i) (h i) (pos 0))
unfolding sumℤ sum_to
sum-lines zero q g h e = refl
sum-lines (suc n) q g h e = go (q n) refl (sum-lines n q g h (λ i l. e i (omega arith)))
  where
    go : (b : Bool) → q n ≡ b → sumℤ (count_to n q) g ≡ sumℤ n (λ i. cond (q i) (h i) (pos 0))
        → sumℤ (count_to n q + cond b 1 0) g ≡ sumℤ n (λ i. cond (q i) (h i) (pos 0)) +ℤ cond b (h n) (pos 0)
    go true z r = rw (add-one (count_to n q), r, e n (omega arith) z)
    go false z r = rw (add-zero (count_to n q), +ℤ_idr) r

pub sum-none : (n : ℕ) (v : ℕ → ℤ) → ((i : ℕ) → i < n → v i ≡ pos 0) → sumℤ n v ≡ pos 0
unfolding sumℤ
sum-none zero v h = refl
sum-none (suc n) v h = rw (sum-none n v (λ i l. h i (omega arith)), h n (omega arith))

-- a sum with one summand that is not 0
sum-only : (n s : ℕ) (v : ℕ → ℤ) → ((i : ℕ) → (i ≡ s → ⊥) → v i ≡ pos 0) → s < n → sumℤ n v ≡ v s
unfolding sumℤ
sum-only zero s v h l = absurd (not-suc-le-zero l)
sum-only (suc n) s v h l = elim (eq-or-lt_of_le (le_of_suc-le-suc l)) [
  | inl e ↦ rw (sum-none n v (λ i m. h i (λ z. omega arith)), e) (+ℤ_idl (v n))
  | inr m ↦ rw (sum-only n s v h m, h n (λ z. omega arith)) (+ℤ_idr (v s))
]

none : (b : Bool) → cond b (pos 0) (pos 0) ≡ pos 0
none true = refl
none false = refl

-- the sum over the lines of one id: its own line, or nothing
pub sum_of : (n : ℕ) (q : ℕ → Bool) (id : ℕ → ℕ) (g h : ℕ → ℤ) (s : ℕ) → s < n
    → ((i : ℕ) → i < n → q i ≡ true → (id (count_to i q) ≡ i) × (g (count_to i q) ≡ h i)) → sumℤ (count_to n q) (λ k. cond (eqb (id k) s) (g k) (pos 0)) ≡ cond (q s) (h s) (pos 0)
sum_of n q id g h s l e =
    let own : ℕ → ℤ = λ i. cond (eqb i s) (h i) (pos 0) in
    sum-lines n q (λ k. cond (eqb (id k) s) (g k) (pos 0)) own (λ i m y. rw ((e i m y).0, (e i m y).1))
    ∙ sum-only n s (λ i. cond (q i) (own i) (pos 0)) (λ i z. rw (ne_eqb i s z) (none (q i))) l
    ∙ rw (eq-eqb s s refl)
