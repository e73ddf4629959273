-- What it is to be n eighths, which `counts` and `eighths_of` say by a test and a number. A fraction of n eighths is rounded to itself: so a value that counts times 8, and a number below 8 × 131,072
-- divided by 8, are exact.
use Rattle.std.specs.Prelude.{◌≡◌, ℕ, ◌+◌, ◌*◌, ◌/◌, ◌%◌, ◌^◌, ◌<◌, Bool, true, false, not, ◌&&◌, ◌||◌, ℤ, pos, ◌==◌, nat_lt, refl, Float}
use Rattle.std.proofs.Common.{sym, ap, ◌∙◌, mul_assoc, mul_right_comm, mul-one, mul-pos, mul-div_cancel, div-add-mod', add-zero, zero-mul, lt_of_lt_of_le, arith, true≢false, lit<, lit≤, pow-add, pow_mono, shl_lt, eqb-true, ltb-true, eq-eqb, lt-ltb}
use Rattle.std.proofs.Math.Nat.{mul-mod_left, eq_of_mul-eq-mul_right}
use Rattle.std.specs.Bool.{beq}
use Rattle.std.specs.Float.{nan, inf, fin, binary32}
use Rattle.std.specs.Float.Ieee.{up, down, round, mul, div, of_int}
use Rattle.std.specs.Float.Ieee.Exact.{HasValue, round_exact}
use Rattle.std.specs.Float.Ieee.Fits.{down_pos, up_pos}
use Rattle.ids.specs.Tests.{and_parts}
use Rattle.telemetry_eighths.specs.Eighths.{edge, counts, eighths_of}

-- the floats that the code has as 0.0, 8.0 and 1048576.0, which is `edge`
abbrev pub nought : Float
nought = fin false 0 (pos 0)

abbrev pub eight : Float
eight = fin false 1 (pos 3)

abbrev pub bound : Float
bound = fin false 1 (pos 20)

-- x is n eighths: its size is n / 8, and a negative x is so only at 0
abbrev pub Is : Float → ℕ → Type 0
Is nan n = ⊥
Is (inf s) n = ⊥
Is (fin s m e) n = (m * up e * 8 ≡ n * down e) × (s ≡ true → n ≡ 0)

of-value : (x : Float) (s : Bool) (a c n : ℕ) → 0 < c → a * 8 ≡ n * c → (s ≡ true → n ≡ 0) → HasValue x s a c → Is x n
of-value nan s a c n C h z v = v
of-value (inf t) s a c n C h z v = v
of-value (fin t m e) s a c n C h z v = (
  eq_of_mul-eq-mul_right c C (m * up e * 8) (n * down e)
      (mul_right_comm (m * up e) 8 c ∙ ap (λ (x : ℕ). x * 8) v.1 ∙ mul_right_comm a (down e) 8 ∙ ap (λ (x : ℕ). x * down e) h ∙ mul_right_comm n c (down e)),
  λ p. z (sym v.0 ∙ p),
)

in-units : (a c n k : ℕ) → a * 8 ≡ n * c → a * 2 ^ (3 + k) ≡ n * 2 ^ k * c
in-units a c n k h = ap (λ (x : ℕ). a * x) (pow-add 2 3 k) ∙ sym (mul_assoc a 8 (2 ^ k)) ∙ ap (λ (x : ℕ). x * 2 ^ k) h ∙ mul_right_comm n c (2 ^ k)

pub rounded : (s : Bool) (a c n : ℕ) → 0 < c → n < 2 ^ 24 → a * 8 ≡ n * c → (s ≡ true → n ≡ 0) → Is (round binary32 s a c) n
rounded s a c n C N h z =
    of-value (round binary32 s a c) s a c n C h z
    (round_exact binary32 s a c n 146 C N (lt_of_lt_of_le (shl_lt 24 146 N) (pow_mono {i = 24 + 146} {j = 149 + 128} (lit≤ tt))) (in-units a c n 146 h))

-- the sign of an operation with a number that is not negative
like : (s : Bool) (n k : ℕ) → (s ≡ true → n ≡ 0) → (n ≡ 0 → k ≡ 0) → not (beq s false) ≡ true → k ≡ 0
like true n k z f g = f (z refl)
like false n k z f g = absurd (true≢false (sym g))

pub times8 : (x : Float) (n : ℕ) → Is x n → n < edge → Is (mul binary32 x eight) (n * 8)
unfolding mul
times8 nan n p N = absurd p
times8 (inf s) n p N = absurd p
times8 (fin s m e) n p N =
    rounded (not (beq s false)) (m * up e * 8) (down e * 1) (n * 8) (mul-pos (down_pos e) (lit< tt)) (omega arith)
    (ap (λ (z : ℕ). z * 8) p.0 ∙ mul_right_comm n (down e) 8 ∙ ap (λ (z : ℕ). n * 8 * z) (sym (mul-one (down e))))
    (like s n (n * 8) p.1 (λ z. ap (λ (k : ℕ). k * 8) z))

over8 : (x : Float) (n : ℕ) → Is x (n * 8) → n < edge → Is (div binary32 x eight) n
unfolding div
over8 nan n p N = absurd p
over8 (inf s) n p N = absurd p
over8 (fin s m e) n p N =
    rounded (not (beq s false)) (m * up e * 1) (8 * down e) n (mul-pos (lit< tt) (down_pos e)) (omega arith)
    (ap (λ (z : ℕ). z * 8) (mul-one (m * up e)) ∙ p.0 ∙ mul_assoc n 8 (down e))
    (like s (n * 8) n p.1 (λ z. omega arith))

pub eighth : (n : ℕ) → n < edge → Is (div binary32 (of_int binary32 (pos n)) eight) n
unfolding of_int
eighth n N = over8 (round binary32 false n 1) n (rounded false n 1 (n * 8) (lit< tt) (omega arith) (sym (mul-one (n * 8))) (λ g. absurd (true≢false (sym g)))) N

-- not below zero
abbrev plus : Bool → ℕ → Bool
plus s m = not s || m == 0

plus-zero : (s : Bool) (m u n d : ℕ) → m * u * 8 ≡ n * d → 0 < d → plus s m ≡ true → s ≡ true → n ≡ 0
plus-zero true m u n d h D t p =
    eq_of_mul-eq-mul_right d D n 0 (sym h ∙ ap (λ (x : ℕ). x * u * 8) (eqb-true m 0 t) ∙ ap (λ (x : ℕ). x * 8) (zero-mul u) ∙ sym (zero-mul d))
plus-zero false m u n d h D t p = absurd (true≢false (sym p))

plus-of : (s : Bool) (m u n d : ℕ) → 0 < u → m * u * 8 ≡ n * d → (s ≡ true → n ≡ 0) → plus s m ≡ true
plus-of true m u n d U h z =
    let none : m * u * 8 ≡ 0 = h ∙ ap (λ (x : ℕ). x * d) (z refl) ∙ zero-mul d in
    eq-eqb m 0 (eq_of_mul-eq-mul_right u U m 0 (let g : m * u ≡ 0 = omega (arith, none) in g ∙ sym (zero-mul u)))
plus-of false m u n d U h z = refl

-- a value that counts is as many eighths as it is said to be, below the bound
pub of-counts : (x : Float) → counts x ≡ true → Is x (eighths_of x) × (eighths_of x < edge)
unfolding counts eighths_of
of-counts nan t = absurd (true≢false (sym t))
of-counts (inf s) t = absurd (true≢false (sym t))
of-counts (fin s m e) t =
    let a = m * up e * 8 in
    let n = a / down e in
    let whole = and_parts (a % down e == 0) (plus s m && nat_lt n edge) t in
    let rest = and_parts (plus s m) (nat_lt n edge) whole.1 in
    let h : a ≡ n * down e = sym (sym (add-zero (n * down e)) ∙ ap (λ (r : ℕ). n * down e + r) (sym (eqb-true (a % down e) 0 whole.0)) ∙ div-add-mod' a (down e)) in
    ((h, plus-zero s m (up e) n (down e) h (down_pos e) rest.0), ltb-true n edge rest.1)

-- and so the other way round
pub eighths-is : (x : Float) (n : ℕ) → Is x n → eighths_of x ≡ n
unfolding eighths_of
eighths-is nan n p = absurd p
eighths-is (inf s) n p = absurd p
eighths-is (fin s m e) n p = ap (λ (a : ℕ). a / down e) p.0 ∙ mul-div_cancel n (down_pos e)

-- what `counts` asks of a finite value of n eighths
asked : (s : Bool) (m : ℕ) (e : ℤ) (n : ℕ) → Is (fin s m e) n → n < edge → ((m * up e * 8 % down e == 0) ≡ true) × ((plus s m ≡ true) × (nat_lt (m * up e * 8 / down e) edge ≡ true))
asked s m e n p N =
    let q : m * up e * 8 / down e ≡ n = ap (λ (z : ℕ). z / down e) p.0 ∙ mul-div_cancel n (down_pos e) in
    let r : m * up e * 8 % down e ≡ 0 = ap (λ (z : ℕ). z % down e) p.0 ∙ mul-mod_left n (down e) in
    (eq-eqb (m * up e * 8 % down e) 0 r, (plus-of s m (up e) n (down e) (up_pos e) p.0 p.1, lt-ltb (m * up e * 8 / down e) edge (omega (arith, q, N))))

pub to-counts : (x : Float) (n : ℕ) → Is x n → n < edge → counts x ≡ true
unfolding counts
to-counts nan n p N = absurd p
to-counts (inf s) n p N = absurd p
to-counts (fin s m e) n p N = let t = asked s m e n p N in rw (t.0, t.1.0) t.1.1

-- each number of eighths below the bound is that of a value that counts
pub each : (n : ℕ) → n < edge → (counts (round binary32 false n 8) ≡ true) × (eighths_of (round binary32 false n 8) ≡ n)
unfolding counts
each n N = (go (round binary32 false n 8) p, eighths-is (round binary32 false n 8) n p)
  where
    p : Is (round binary32 false n 8) n
    p = rounded false n 8 n (lit< tt) (omega arith) refl (λ g. absurd (true≢false (sym g)))

    go : (x : Float) → Is x n → counts x ≡ true
    go nan q = absurd q
    go (inf s) q = absurd q
    go (fin s m e) q = let t = asked s m e n q N in rw (t.0, t.1.0) t.1.1
