-- The cast that drops a value's fraction, and the three tests by which `telemetry_eighths::counts` tells whether a value counts.
use Rattle.std.specs.Prelude.{◌≡◌, ℕ, ◌+◌, ◌-◌, ◌*◌, ◌/◌, ◌^◌, ◌<◌, min, Bool, true, false, T, pos, ◌==◌, refl, Float}
use Rattle.std.proofs.Common.{sym, ap, ◌∙◌, subst, mul-one, mul-pos, mul-div_cancel, zero-mul, mul-le-mul_right, lt_of_lt_of_le, div-lt_iff_lt-mul, arith, true≢false, lt→ltb, lit<, lit≤, ltb-true, eqb-true}
use Rattle.std.specs.Float.{nan, inf, fin, binary32}
use Rattle.std.specs.Float.Ieee.{up, down, mul, div, lt, le, eq, of_int, to_unsigned}
use Rattle.std.specs.Float.Ieee.Fits.{down_pos}
use Rattle.std.specs.Float.Ieee.Nearest.{div_same}
use Rattle.ids.specs.Tests.{and_parts}
use Rattle.telemetry_eighths.specs.Eighths.{edge, counts, eighths_of}
use Rattle.telemetry_eighths.specs.Values.{nought, eight, bound, Is, times8, eighth, of-counts, to-counts}
use Rattle.telemetry_eighths.specs.Compared.{lt_of, le_of, eq_of, is-of-eq}

-- the cast is defined from 0 up to the bound, and its result is below the bound
above : (y : Float) → le nought y ≡ true → lt y bound ≡ true → T (lt (fin true 1 (pos 0)) y)
unfolding le lt
above nan t u = absurd (true≢false (sym t))
above (inf true) t u = absurd (true≢false (sym t))
above (inf false) t u = absurd (true≢false (sym u))
above (fin true m e) t u =
    let A = m * up e * 1 in
    let h : 0 * 1 * down e ≡ A = eqb-true (0 * 1 * down e) A (and_parts (0 * 1 * down e == A) (0 * 1 * down e == 0) t).0 in
    let z : 0 * 1 * down e ≡ 0 = zero-mul (down e) in
    let g : 0 < 1 * 1 * down e = mul-pos (lit< tt) (down_pos e) in
    lt→ltb A (1 * 1 * down e) (omega arith)
above (fin false m e) t u =
    let g : 0 < 1 * 1 * down e = mul-pos (lit< tt) (down_pos e) in
    lt→ltb 0 (1 * 1 * down e + m * up e * 1) (omega arith)

below : (y : Float) → le nought y ≡ true → lt y bound ≡ true → T (lt y (fin false 1 (pos 64)))
unfolding le lt
below nan t u = absurd (true≢false (sym t))
below (inf true) t u = absurd (true≢false (sym t))
below (inf false) t u = absurd (true≢false (sym u))
below (fin true m e) t u =
    let g : 0 < 1 * 2 ^ 64 * down e = mul-pos (lit< tt) (down_pos e) in
    lt→ltb 0 (m * up e * 1 + 1 * 2 ^ 64 * down e) (omega arith)
below (fin false m e) t u =
    lt→ltb (m * up e * 1) (1 * 2 ^ 64 * down e) (lt_of_lt_of_le (ltb-true (m * up e * 1) (1 * 2 ^ 20 * down e) u) (mul-le-mul_right (down e) (lit≤ tt)))

pub castable : (y : Float) → le nought y ≡ true → lt y bound ≡ true → T (lt (fin true 1 (pos 0)) y) × T (lt y (fin false 1 (pos 64)))
castable y t u = (above y t u, below y t u)

pub cut-lt : (y : Float) → le nought y ≡ true → lt y bound ≡ true → to_unsigned 64 y < edge
unfolding le lt to_unsigned
cut-lt nan t u = absurd (true≢false (sym t))
cut-lt (inf true) t u = absurd (true≢false (sym t))
cut-lt (inf false) t u = absurd (true≢false (sym u))
cut-lt (fin true m e) t u = lit< tt
cut-lt (fin false m e) t u =
    let h : m * up e / down e < edge = (div-lt_iff_lt-mul (down_pos e)).1 (subst (λ (z : ℕ). z < edge * down e) (mul-one (m * up e)) (ltb-true (m * up e * 1) (1 * 2 ^ 20 * down e) u)) in
    omega arith

-- of n eighths it drops these
dropped : (x : Float) (n : ℕ) → Is x n → n < 2 ^ 23 → to_unsigned 64 x ≡ n / 8
unfolding to_unsigned
dropped nan n p N = absurd p
dropped (inf s) n p N = absurd p
dropped (fin true m e) n p N = sym (ap (λ (z : ℕ). z / 8) (p.1 refl))
dropped (fin false m e) n p N =
    ap (λ (z : ℕ). min z (2 ^ 64 - 1)) (div_same (m * up e) (down e) n 8 (down_pos e) (lit< tt) p.0) ∙ (let h : min (n / 8) (2 ^ 64 - 1) ≡ n / 8 = omega arith in h)

-- a value of n eighths lies from 0 up to the bound
module _ (x : Float) (n : ℕ) (p : Is x n) (N : n < 2 ^ 23) where
  is-low : le nought x ≡ true
  is-low = le_of nought x 0 n (refl, λ g. refl) p (omega arith)

  is-high : lt x bound ≡ true
  is-high = lt_of x bound n (2 ^ 23) p (refl, λ g. absurd (true≢false (sym g))) N

-- a value that counts can be cast, which drops its eighths; and it passes the tests of `telemetry_eighths::counts`
module _ (x : Float) (t : counts x ≡ true) where
  is : Is x (eighths_of x)
  is = (of-counts x t).0

  N : eighths_of x < edge
  N = (of-counts x t).1

  pub kw-castable : T (lt (fin true 1 (pos 0)) x) × T (lt x (fin false 1 (pos 64)))
  kw-castable = castable x (is-low x (eighths_of x) is (omega (arith, N))) (is-high x (eighths_of x) is (omega (arith, N)))

  pub kw-cast : to_unsigned 64 x ≡ eighths_of x / 8
  kw-cast = dropped x (eighths_of x) is (omega (arith, N))

  by-eight : Is (mul binary32 x eight) (eighths_of x * 8)
  by-eight = times8 x (eighths_of x) is N

  pub passes-low : le nought (mul binary32 x eight) ≡ true
  passes-low = is-low (mul binary32 x eight) (eighths_of x * 8) by-eight (omega (arith, N))

  pub passes-high : lt (mul binary32 x eight) bound ≡ true
  passes-high = is-high (mul binary32 x eight) (eighths_of x * 8) by-eight (omega (arith, N))

  passes-back : eq (div binary32 (of_int binary32 (pos (to_unsigned 64 (mul binary32 x eight)))) eight) x ≡ true
  passes-back =
      rw (dropped (mul binary32 x eight) (eighths_of x * 8) by-eight (omega (arith, N)) ∙ mul-div_cancel (eighths_of x) (lit< tt))
      (eq_of (div binary32 (of_int binary32 (pos (eighths_of x))) eight) x (eighths_of x) (eighth (eighths_of x) N) is)

-- past the first two tests the third tells
pub told : (x : Float) → le nought (mul binary32 x eight) ≡ true → lt (mul binary32 x eight) bound ≡ true
    → eq (div binary32 (of_int binary32 (pos (to_unsigned 64 (mul binary32 x eight)))) eight) x ≡ counts x
told x low high = go (eq (div binary32 (of_int binary32 (pos n)) eight) x) (counts x) refl refl
  where
    n : ℕ
    n = to_unsigned 64 (mul binary32 x eight)

    go : (a b : Bool) → eq (div binary32 (of_int binary32 (pos n)) eight) x ≡ a → counts x ≡ b → a ≡ b
    go true b e c =
        let N = cut-lt (mul binary32 x eight) low high in
        sym (to-counts x n (is-of-eq (div binary32 (of_int binary32 (pos n)) eight) x n (eighth n N) e) N) ∙ c
    go false true e c = sym e ∙ passes-back x c
    go false false e c = refl

-- one that fails a test that a value that counts passes does not count
pub fails : (x : Float) (b : Bool) → b ≡ false → (counts x ≡ true → b ≡ true) → false ≡ counts x
fails x b e f = go (counts x) refl
  where
    go : (w : Bool) → counts x ≡ w → false ≡ w
    go true c = sym e ∙ f c
    go false c = refl
