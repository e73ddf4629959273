-- What shifts and masks of a word do to fields.
use Rattle.std.specs.Prelude.{◌≡◌, List, ℕ, ◌+◌, ◌-◌, ◌*◌, ◌/◌, ◌%◌, ◌^◌, ◌≤◌, ◌<◌, get_or}
use Rattle.std.proofs.Common.{sym, ap, ◌∙◌, one-mul, arith, pow-add, shl_exact, shl_lt, shr-shr}
use Rattle.std.proofs.lemmas.Nat.{shl-shr, and_mask, or_shifted}
use Rattle.std.proofs.Math.Pow.{low, field}
use Rattle.std.specs.Int.Bits.{bit_and, bit_or}
use Rattle.bits.specs.Bits.{field_at}
use Rattle.bits.specs.BitLaws.{field_lt, field-split, field-mid, byte-field}

-- a one shifted left
pub one_shl : (w : ℕ) → w < 64 → (1 * 2 ^ w) % 2 ^ 64 ≡ 2 ^ w
one_shl w h = shl_exact {a = 1} 1 w 64 (omega arith) (omega arith) ∙ one-mul (2 ^ w)

-- a mask of w ones takes the remainder by 2 ^ w
pub masked : (n w : ℕ) → w < 64 → bit_and n ((1 * 2 ^ w) % 2 ^ 64 - 1) ≡ n % 2 ^ w
masked n w h = rw (one_shl w h) (and_mask n w)

-- a number of a bits, and one of b bits behind it
pub behind : (u v a b : ℕ) → a + b ≤ 64 → u < 2 ^ a → v < 2 ^ b → bit_or ((u * 2 ^ b) % 2 ^ 64) v ≡ u * 2 ^ b + v
behind u v a b l hu hv = rw (shl_exact {a = u} a b 64 hu l) (or_shifted u b v hv)

-- two fields in a row are one
pub in_a_row : (xs : List ℕ) (p a b u v : ℕ) → a + b ≤ 64 → u ≡ field_at xs p a → v ≡ field_at xs (p + a) b → bit_or ((u * 2 ^ b) % 2 ^ 64) v ≡ field_at xs p (a + b)
in_a_row xs p a b u v l e f =
    rw (e, f, field-split xs p a b) (behind (field_at xs p a) (field_at xs (p + a) b) a b l (field_lt xs p a) (field_lt xs (p + a) b))

-- one more byte
byte_more : (xs : List ℕ) (i n : ℕ) → get_or xs (i + n) 0 < 2 ^ 8 → field_at xs (8 * i) (8 * n + 8) ≡ field_at xs (8 * i) (8 * n) * 2 ^ 8 + get_or xs (i + n) 0
byte_more xs i n b =
    let at : 8 * i + 8 * n ≡ 8 * (i + n) = omega arith in
    rw (field-split xs (8 * i) (8 * n) 8, at, byte-field xs (i + n) b)

pub gather : (xs : List ℕ) (f i acc : ℕ) → f ≤ i → i - f ≤ 7 → get_or xs i 0 < 2 ^ 8 → acc ≡ field_at xs (8 * f) (8 * (i - f))
    → bit_or ((acc * 2 ^ 8) % 2 ^ 64) (get_or xs i 0) ≡ field_at xs (8 * f) (8 * (i + 1 - f))
gather xs f i acc l m b e =
    let n : 8 * (i + 1 - f) ≡ 8 * (i - f) + 8 = omega arith in
    let at : 8 * f + 8 * (i - f) ≡ 8 * i = omega arith in
    rw n (in_a_row xs (8 * f) (8 * (i - f)) 8 acc (get_or xs i 0) (omega arith) e (rw at (sym (byte-field xs i b))))

-- four bytes
pub quad-field : (xs : List ℕ) (i : ℕ) → ((k : ℕ) → get_or xs k 0 < 2 ^ 8)
    → field_at xs (8 * i) 32 ≡ ((get_or xs i 0 * 2 ^ 8 + get_or xs (i + 1) 0) * 2 ^ 8 + get_or xs (i + 2) 0) * 2 ^ 8 + get_or xs (i + 3) 0
quad-field xs i b =
    rw (byte_more xs i 3 (b (i + 3)), byte_more xs i 2 (b (i + 2)), byte_more xs i 1 (b (i + 1)), byte-field xs i (b i))

-- a word shifted left by a and then right: its w bits behind the first a
pub shifted : (word a w : ℕ) → a + w ≤ 64 → (word * 2 ^ a) % 2 ^ 64 / 2 ^ (64 - w) ≡ word / 2 ^ (64 - (a + w)) % 2 ^ w
shifted word a w l =
    let d = 64 - (a + w) in
    let all : 64 ≡ w + (64 - w) = omega arith in
    let rest : 64 - w ≡ a + d = omega arith in
    let cut : word * 2 ^ a / 2 ^ (64 - w) ≡ word / 2 ^ d = rw (rest, ← shr-shr (word * 2 ^ a) a d, shl-shr word a) in
    ap (λ (n : ℕ). (word * 2 ^ a) % 2 ^ n / 2 ^ (64 - w)) all ∙ field (word * 2 ^ a) w (64 - w) ∙ ap (λ (x : ℕ). x % 2 ^ w) cut

-- the w bits from bit p on of the word of the eight bytes from bit base on
pub middle : (xs : List ℕ) (base p w word : ℕ) → p + w ≤ 64 → word ≡ field_at xs base 64 → word / 2 ^ (64 - (p + w)) % 2 ^ w ≡ field_at xs (base + p) w
middle xs base p w word l f =
    let d = 64 - (p + w) in
    let whole : p + w + d ≡ 64 = omega arith in
    rw f (rw whole at (field-mid xs base p w d))

-- a word of fields shifted left has lost its first a bits
pub behind-first : (xs : List ℕ) (p a : ℕ) → a ≤ 64 → (field_at xs p 64 * 2 ^ a) % 2 ^ 64 ≡ field_at xs (p + a) (64 - a) * 2 ^ a
behind-first xs p a l =
    let b = 64 - a in
    let x = field_at xs p a in
    let y = field_at xs (p + a) b in
    let all : 64 ≡ a + b = omega arith in
    let back : b + a ≡ 64 = omega arith in
    let word : field_at xs p 64 ≡ x * 2 ^ b + y = ap (λ (w : ℕ). field_at xs p w) all ∙ field-split xs p a b in
    let power : 2 ^ 64 ≡ 2 ^ b * 2 ^ a = ap (λ (w : ℕ). 2 ^ w) (sym back) ∙ pow-add 2 b a in
    let small : y * 2 ^ a < 2 ^ 64 = rw back at (shl_lt {a = y} b a (field_lt xs (p + a) b)) in
    rw (word, apart x y (2 ^ b) (2 ^ a), ← power) (low x 64 small)
  where
    apart : (x y B A : ℕ) → (x * B + y) * A ≡ x * (B * A) + y * A
    apart x y B A = omega arith
