-- Laws of bits and fields: what a field depends on, and what it determines.
use Rattle.std.specs.Prelude.{◌≡◌, refl, List, [], ◌∷◌, ◌++◌, length, get_or, take, drop}
use Rattle.std.proofs.Common.{sym, ap, ◌∙◌, add-zero, add-suc, div-one, shr-shr, ext_get_or, get_or-append-add, get_or-drop, get_or-take}
use Prim.Native.Nat.{ℕ, zero, suc, ◌+◌, ◌-◌, ◌*◌, ◌/◌, ◌%◌, ◌^◌, ◌≤◌, ◌<◌}
use Rattle.std.proofs.Math.Nat.{add_assoc, pow-zero, pow-suc, sub-zero, div-eq_of_lt, zero-div}
use Rattle.std.proofs.Math.Decide.{dec_lt}
use native.Mathlib.Omega.{arith}
use Rattle.std.proofs.Math.ListN.{get_or-append, get_or-eq_default}
use Rattle.std.proofs.Math.Pow.{high, low}
use Rattle.bits.specs.Bits.{Bytes, bit_at, number, field_at}

-- elements below a bound, in two lists one after another
pub below-append : (n : ℕ) (xs ys : List ℕ) → ((i : ℕ) → get_or xs i 0 < n) → ((i : ℕ) → get_or ys i 0 < n) → (i : ℕ) → get_or (xs ++ ys) i 0 < n
below-append n [] ys f g i = g i
below-append n (x ∷ xs) ys f g zero = f 0
below-append n (x ∷ xs) ys f g (suc i) = below-append n xs ys (λ j. f (suc j)) g i

module _ (f : ℕ → ℕ) (bit : (q : ℕ) → f q < 2) where
  pub number_lt : (p w : ℕ) → number f p w < 2 ^ w
  unfolding number
  number_lt p zero = omega arith
  number_lt p (suc w) =
      let h = number_lt p w in
      let b = bit (p + w) in
      rw pow-suc (omega arith)

  -- a number is its first a bits and then its last b
  pub number-split : (p a b : ℕ) → number f p (a + b) ≡ number f p a * 2 ^ b + number f (p + a) b
  unfolding number
  number-split p a zero = rw (add-zero a, pow-zero 2) (omega arith)
  number-split p a (suc b) =
      let h = number-split p a b in
      rw (add-suc a b, pow-suc 2 b, ← add_assoc p a b) (omega arith)

  -- the middle w bits of a number, by a shift and a remainder
  pub number-mid : (p a w d : ℕ) → number f p (a + w + d) / 2 ^ d % 2 ^ w ≡ number f (p + a) w
  number-mid p a w d =
      rw (number-split p (a + w) d, high (number f p (a + w)) d (number_lt (p + (a + w)) d), number-split p a w, low (number f p a) w (number_lt (p + a) w))

-- a number depends on its own bits alone
pub number-cong : (f g : ℕ → ℕ) (p w : ℕ) → ((q : ℕ) → p ≤ q → q < p + w → f q ≡ g q) → number f p w ≡ number g p w
unfolding number
number-cong f g p zero h = refl
number-cong f g p (suc w) h =
    let r = number-cong f g p w (λ q l m. h q l (omega arith)) in
    let b = h (p + w) (omega arith) (omega arith) in
    omega arith

-- bits that are all zero spell zero
pub number-zero : (f : ℕ → ℕ) (p w : ℕ) → ((q : ℕ) → p ≤ q → q < p + w → f q ≡ 0) → number f p w ≡ 0
unfolding number
number-zero f p zero h = refl
number-zero f p (suc w) h =
    let r = number-zero f p w (λ q l m. h q l (omega arith)) in
    let b = h (p + w) (omega arith) (omega arith) in
    omega arith

pub number-one : (f : ℕ → ℕ) (p : ℕ) → number f p 1 ≡ f p
unfolding number
number-one f p = rw add-zero (omega arith)

-- the first n of the w bits of v
front : (f : ℕ → ℕ) (p w v n : ℕ) → v < 2 ^ w → ((k : ℕ) → k < w → f (p + k) ≡ v / 2 ^ (w - 1 - k) % 2) → n ≤ w → number f p n ≡ v / 2 ^ (w - n)
unfolding number
front f p w v zero small h l = rw sub-zero (sym (div-eq_of_lt small))
front f p w v (suc n) small h l =
    let r = front f p w v n small h (omega arith) in
    let k : w - n ≡ (w - suc n) + 1 = omega arith in
    let j : w - 1 - n ≡ w - suc n = omega arith in
    let m = v / 2 ^ (w - suc n) in
    let s : v / 2 ^ (w - n) ≡ m / 2 = rw (k, ← shr-shr v (w - suc n) 1) in
    let t : f (p + n) ≡ m % 2 = h n (omega arith) ∙ rw j in
    omega arith

-- the bits of v spell v
pub number_is : (f : ℕ → ℕ) (p w v : ℕ) → v < 2 ^ w → ((k : ℕ) → k < w → f (p + k) ≡ v / 2 ^ (w - 1 - k) % 2) → number f p w ≡ v
number_is f p w v small h =
    let z : w - w ≡ 0 = omega arith in
    front f p w v w small h (omega arith) ∙ rw (z, pow-zero 2, div-one)

pub bit-lt : (xs : List ℕ) (p : ℕ) → bit_at xs p < 2
unfolding bit_at
bit-lt xs p = omega arith

pub field_lt : (xs : List ℕ) (p w : ℕ) → field_at xs p w < 2 ^ w
field_lt xs p w = number_lt (bit_at xs) (bit-lt xs) p w

-- a field is its first a bits and then its last b
pub field-split : (xs : List ℕ) (p a b : ℕ) → field_at xs p (a + b) ≡ field_at xs p a * 2 ^ b + field_at xs (p + a) b
field-split xs p a b = number-split (bit_at xs) (bit-lt xs) p a b

-- the middle w bits of a field, by a shift and a remainder
pub field-mid : (xs : List ℕ) (p a w d : ℕ) → field_at xs p (a + w + d) / 2 ^ d % 2 ^ w ≡ field_at xs (p + a) w
field-mid xs p a w d = number-mid (bit_at xs) (bit-lt xs) p a w d

-- past the last byte all bits are zero
pub field_past : (xs : List ℕ) (p w : ℕ) → 8 * length xs ≤ p → field_at xs p w ≡ 0
unfolding bit_at
field_past xs p w h = number-zero (bit_at xs) p w (λ q l m. rw (get_or-eq_default xs 0 {n = q / 8} (omega arith), zero-div))

-- a field depends on its own bits alone
pub field-cong : (xs ys : List ℕ) (p w : ℕ) → ((q : ℕ) → p ≤ q → q < p + w → bit_at xs q ≡ bit_at ys q) → field_at xs p w ≡ field_at ys p w
field-cong xs ys p w h = number-cong (bit_at xs) (bit_at ys) p w h

-- the bit at place k from the top of byte i
pub bit_in : (xs : List ℕ) (i k : ℕ) → k < 8 → bit_at xs (8 * i + k) ≡ get_or xs i 0 / 2 ^ (7 - k) % 2
unfolding bit_at
bit_in xs i k h =
    let q : (8 * i + k) / 8 ≡ i = omega arith in
    let r : (8 * i + k) % 8 ≡ k = omega arith in
    rw (q, r)

-- a byte is the field of its eight bits
pub byte-field : (xs : List ℕ) (i : ℕ) → get_or xs i 0 < 2 ^ 8 → field_at xs (8 * i) 8 ≡ get_or xs i 0
byte-field xs i b = number_is (bit_at xs) (8 * i) 8 (get_or xs i 0) b (λ k h. bit_in xs i k h)

-- two lists of bytes agree on the bits from p up to e
pub record Agree (xs ys : List ℕ) (p e : ℕ) : Type 0 where
  pub same : (q : ℕ) → p ≤ q → q < e → bit_at xs q ≡ bit_at ys q

pub agree-join : {xs ys : List ℕ} {p m e : ℕ} → Agree xs ys p m → Agree xs ys m e → Agree xs ys p e
agree-join {m = m} f g = record { same = λ q l h. elim (dec_lt q m) [ yes a ↦ f.same q l a | no a ↦ g.same q (omega arith) h ] }

-- the same bytes have the same bits
pub agree-bytes : (xs ys : List ℕ) (n : ℕ) → ((i : ℕ) → i < n → get_or xs i 0 ≡ get_or ys i 0) → Agree xs ys 0 (8 * n)
unfolding bit_at
agree-bytes xs ys n h = record { same = λ q l m. rw (h (q / 8) (omega arith)) }

pub agree-append : (xs rest : List ℕ) → Agree (xs ++ rest) xs 0 (8 * length xs)
agree-append xs rest = agree-bytes (xs ++ rest) xs (length xs) (λ i h. get_or-append xs rest 0 i h)

pub agree-take : (xs ys : List ℕ) (n : ℕ) → take n xs ≡ take n ys → Agree xs ys 0 (8 * n)
agree-take xs ys n e =
    agree-bytes xs ys n (λ i h. sym (get_or-take n xs i 0 h) ∙ ap (λ (l : List ℕ). get_or l i 0) e ∙ get_or-take n ys i 0 h)

-- with other bytes in front, as many as before, the bits behind them are as before
pub bit-after : (xs ys : List ℕ) (q : ℕ) → 8 * length xs ≤ q → bit_at (xs ++ drop (length xs) ys) q ≡ bit_at ys q
unfolding bit_at
bit-after xs ys q h =
    let n : q / 8 ≡ length xs + (q / 8 - length xs) = omega arith in
    rw (n, get_or-append-add xs (drop (length xs) ys) (q / 8 - length xs) 0, get_or-drop (length xs) ys (q / 8 - length xs) 0)

pub agree-field : {xs ys : List ℕ} {p e : ℕ} → Agree xs ys p e → (q u : ℕ) → p ≤ q → q + u ≤ e → field_at xs q u ≡ field_at ys q u
agree-field {xs} {ys} f q u l h = field-cong xs ys q u (λ k a b. f.same k (omega arith) (omega arith))

-- equal fields have equal bits
pub field-bits : (xs ys : List ℕ) (p w : ℕ) → field_at xs p w ≡ field_at ys p w → Agree xs ys p (p + w)
unfolding number
field-bits xs ys p zero e = record { same = λ q l h. absurd (omega arith) }
field-bits xs ys p (suc w) e =
    let bx = bit-lt xs (p + w) in
    let by = bit-lt ys (p + w) in
    let top : field_at xs p w ≡ field_at ys p w = omega arith in
    let last : bit_at xs (p + w) ≡ bit_at ys (p + w) = omega arith in
    let r = field-bits xs ys p w top in
    record { same = λ q l h. elim (dec_lt q (p + w)) [ yes a ↦ r.same q l a | no a ↦ let z : q ≡ p + w = omega arith in rw z last ] }

-- lists of bytes of one length with the same bits are the same
pub same_bytes : {xs ys : List ℕ} → Bytes xs → Bytes ys → length xs ≡ length ys → Agree xs ys 0 (8 * length xs) → xs ≡ ys
same_bytes {xs} {ys} hx hy e f =
    ext_get_or 0 xs ys e (λ i h. sym (byte-field xs i (hx i)) ∙ agree-field f (8 * i) 8 (omega arith) (omega arith) ∙ byte-field ys i (hy i))
