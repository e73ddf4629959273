-- The exact case: the difference of two counts of eighths, the larger below 8 × 131,072, is exact in binary32. It serves both sorts of sample.
use Rattle.std.specs.Prelude.{◌≡◌, ℕ, ◌+◌, ◌-◌, ◌*◌, ◌<◌, ◌≤◌, Bool, true, false, cond, ◌&&◌, nat_lt, refl, Float}
use Rattle.std.proofs.Common.{sym, ap, ◌∙◌, add-zero, add-mul, arith, le-ltb}
use Rattle.std.specs.Float.{nan, inf, fin, binary32}
use Rattle.std.specs.Float.Ieee.{up, down, round, neg, sum, add, sub, lt}
use Rattle.ids.specs.Tests.{and_parts}
use Rattle.telemetry_eighths.specs.Eighths.{edge, counts, eighths_of, Less}
use Rattle.telemetry_eighths.specs.Values.{Is, rounded, of-counts, to-counts, eighths-is}
use Rattle.telemetry_eighths.specs.Compared.{Over, over, none, le-over, lt-eighths}

module _ {A B c a b : ℕ} (o : Over A B c a b) (N : a < edge) where
  difference : b ≤ a → (A - B) * 8 ≡ (a - b) * c
  difference h =
      let l : (a - b) * c + b * c ≡ a * c = sym (add-mul (a - b) b c) ∙ ap (λ (x : ℕ). x * c) (let k : a - b + b ≡ a = omega arith in k) in
      omega (arith, o.left, o.right)

  -- A / c and B / c with signs, as `sum` adds them where the signs differ and where they are alike
  apart : (s t : Bool) → b ≤ a → (s ≡ true → a ≡ 0) → Is (cond (nat_lt A B) (round binary32 t (B - A) c) (round binary32 (s && nat_lt B A) (A - B) c)) (a - b)
  apart s t h z =
      rw (le-ltb A B (le-over o h))
      (rounded (s && nat_lt B A) (A - B) c (a - b) o.some (omega arith) (difference h) (λ u. omega (arith, z (and_parts s (nat_lt B A) u).0)))

  alike : (s : Bool) → b ≡ 0 → (s ≡ true → a ≡ 0) → Is (round binary32 s (A + B) c) (a - b)
  alike s e z =
      let y : B ≡ 0 = none B b c o.right e in
      rounded s (A + B) c (a - b) o.some (omega arith)
      (ap (λ (w : ℕ). (A + w) * 8) y ∙ ap (λ (w : ℕ). w * 8) (add-zero A) ∙ o.left ∙ ap (λ (w : ℕ). w * c) (let k : a ≡ a - b = omega arith in k))
      (λ u. omega (arith, z u))

sub_is : (x y : Float) (a b : ℕ) → Is x a → Is y b → b ≤ a → a < edge → Is (sub binary32 x y) (a - b)
unfolding sub add neg sum
sub_is nan y a b p q h N = absurd p
sub_is (inf s) y a b p q h N = absurd p
sub_is (fin s m e) nan a b p q h N = absurd q
sub_is (fin s m e) (inf t) a b p q h N = absurd q
sub_is (fin s m e) (fin t k d) a b p q h N = go s t p.1 q.1
  where
    o : Over (m * up e * down d) (k * up d * down e) (down e * down d) a b
    o = over s t m k e d a b p q

    go : (s t : Bool) → (s ≡ true → a ≡ 0) → (t ≡ true → b ≡ 0) → Is (sub binary32 (fin s m e) (fin t k d)) (a - b)
    go true true z w = apart o N true false h z
    go true false z w = alike o N true (omega (arith, z refl)) z
    go false true z w = alike o N false (w refl) z
    go false false z w = apart o N false true h z

pub sub-exact : (x y : Float) → counts x ≡ true → counts y ≡ true → eighths_of y ≤ eighths_of x → Less x y (sub binary32 x y)
sub-exact x y t u h =
    let a = of-counts x t in
    let n = eighths_of x - eighths_of y in
    let p : Is (sub binary32 x y) n = sub_is x y (eighths_of x) (eighths_of y) a.0 (of-counts y u).0 h a.1 in
    record {
      subtracted = λ l. refl;
      counted = to-counts (sub binary32 x y) n p (omega (arith, a.1));
      exact = eighths-is (sub binary32 x y) n p;
    }

-- values that count compare as their eighths do
pub lt-counts : (x y : Float) → counts x ≡ true → counts y ≡ true → lt x y ≡ nat_lt (eighths_of x) (eighths_of y)
lt-counts x y t u = lt-eighths x y (eighths_of x) (eighths_of y) (of-counts x t).0 (of-counts y u).0
