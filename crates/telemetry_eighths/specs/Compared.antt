-- Values in eighths compare as their eighths do.
use Rattle.std.specs.Prelude.{◌≡◌, ℕ, ◌+◌, ◌*◌, ◌<◌, ◌≤◌, Bool, true, false, ◌||◌, ltb, ℤ, ◌==◌, nat_lt, refl, Float}
use Rattle.std.proofs.Common.{sym, ap, ◌∙◌, zero-add, mul_assoc, mul_comm, mul_right_comm, mul-pos, zero-mul, mul-le-mul_right, mul-lt-mul_of_pos_right, arith, true≢false, lt-ltb, le-ltb, eqb-true, eq-eqb}
use Rattle.std.proofs.Math.Nat.{eq_of_mul-eq-mul_right}
use Rattle.std.proofs.Math.Decide.{dec_lt}
use Rattle.std.specs.Bool.{beq}
use Rattle.std.specs.Float.{nan, inf, fin}
use Rattle.std.specs.Float.Ieee.{up, down, lt, le, eq}
use Rattle.std.specs.Float.Ieee.Fits.{down_pos}
use Rattle.ids.specs.Tests.{and_parts}
use Rattle.telemetry_eighths.specs.Values.{Is}

-- a value over a larger denominator
scaled : (p c d a : ℕ) → p * 8 ≡ a * c → p * d * 8 ≡ a * (c * d)
scaled p c d a h = mul_right_comm p d 8 ∙ ap (λ (x : ℕ). x * d) h ∙ mul_assoc a c d

-- two values over one denominator: A / c is a eighths, and B / c is b eighths
pub record Over (A B c a b : ℕ) : Type 0 where
  pub some : 0 < c
  pub left : A * 8 ≡ a * c
  pub right : B * 8 ≡ b * c

pub over : (s t : Bool) (m k : ℕ) (e d : ℤ) (a b : ℕ) → Is (fin s m e) a → Is (fin t k d) b → Over (m * up e * down d) (k * up d * down e) (down e * down d) a b
over s t m k e d a b p q = record {
  some = mul-pos (down_pos e) (down_pos d);
  left = scaled (m * up e) (down e) (down d) a p.0;
  right = scaled (k * up d) (down d) (down e) b q.0 ∙ ap (λ (x : ℕ). b * x) (mul_comm (down d) (down e));
}

pub none : (A a c : ℕ) → A * 8 ≡ a * c → a ≡ 0 → A ≡ 0
none A a c h z = let y : A * 8 ≡ 0 = h ∙ ap (λ (x : ℕ). x * c) z ∙ zero-mul c in omega arith

module _ {A B c a b : ℕ} (o : Over A B c a b) where
  pub le-over : b ≤ a → B ≤ A
  le-over h = omega (arith, o.left, o.right, mul-le-mul_right c h)

  lt-over : ltb A B ≡ nat_lt a b
  lt-over = elim (dec_lt a b) [
    | yes h ↦ lt-ltb A B (omega (arith, o.left, o.right, mul-lt-mul_of_pos_right h o.some)) ∙ sym (lt-ltb a b h)
    | no h ↦ le-ltb A B (le-over (omega arith)) ∙ sym (le-ltb a b (omega arith))
  ]

pub lt-eighths : (x y : Float) (a b : ℕ) → Is x a → Is y b → lt x y ≡ nat_lt a b
unfolding lt
lt-eighths nan y a b p q = absurd p
lt-eighths (inf s) y a b p q = absurd p
lt-eighths (fin s m e) nan a b p q = absurd q
lt-eighths (fin s m e) (inf t) a b p q = absurd q
lt-eighths (fin s m e) (fin t k d) a b p q = go s t p.1 q.1
  where
    A : ℕ
    A = m * up e * down d

    B : ℕ
    B = k * up d * down e

    o : Over A B (down e * down d) a b
    o = over s t m k e d a b p q

    go : (s t : Bool) → (s ≡ true → a ≡ 0) → (t ≡ true → b ≡ 0) → lt (fin s m e) (fin t k d) ≡ nat_lt a b
    go false false z w = lt-over o
    go false true z w = sym (le-ltb a b (omega (arith, w refl)))
    go true false z w =
        let y : A ≡ 0 = none A a (down e * down d) o.left (z refl) in
        let from0 : Over 0 (A + B) (down e * down d) 0 b = record { some = o.some; left = sym (zero-mul (down e * down d)); right = ap (λ (v : ℕ). (v + B) * 8) y ∙ ap (λ (v : ℕ). v * 8) (zero-add B) ∙ o.right } in
        lt-over from0 ∙ ap (λ (v : ℕ). ltb v b) (sym (z refl))
    go true true z w = le-ltb B A (omega (arith, none A a (down e * down d) o.left (z refl))) ∙ sym (le-ltb a b (omega (arith, w refl)))

pub lt_of : (x y : Float) (a b : ℕ) → Is x a → Is y b → a < b → lt x y ≡ true
lt_of x y a b p q h = lt-eighths x y a b p q ∙ lt-ltb a b h

-- equal eighths are equal values, whatever the signs of zeros
pub eq_of : (x y : Float) (n : ℕ) → Is x n → Is y n → eq x y ≡ true
unfolding eq
eq_of nan y n p q = absurd p
eq_of (inf s) y n p q = absurd p
eq_of (fin s m e) nan n p q = absurd q
eq_of (fin s m e) (inf t) n p q = absurd q
eq_of (fin s m e) (fin t k d) n p q = rw (eq-eqb A B (omega (arith, o.left, o.right))) (signs s t p.1 q.1)
  where
    A : ℕ
    A = m * up e * down d

    B : ℕ
    B = k * up d * down e

    o : Over A B (down e * down d) n n
    o = over s t m k e d n n p q

    zero-size : n ≡ 0 → (A == 0) ≡ true
    zero-size z = eq-eqb A 0 (none A n (down e * down d) o.left z)

    signs : (s t : Bool) → (s ≡ true → n ≡ 0) → (t ≡ true → n ≡ 0) → (beq s t || A == 0) ≡ true
    signs true true z w = refl
    signs true false z w = zero-size (z refl)
    signs false true z w = zero-size (w refl)
    signs false false z w = refl

-- a value that compares equal with one of n eighths is of n eighths
pub is-of-eq : (x y : Float) (n : ℕ) → Is x n → eq x y ≡ true → Is y n
unfolding eq
is-of-eq nan y n p t = absurd p
is-of-eq (inf s) y n p t = absurd p
is-of-eq (fin s m e) nan n p t = absurd (true≢false (sym t))
is-of-eq (fin s m e) (inf r) n p t = absurd (true≢false (sym t))
is-of-eq (fin s m e) (fin r k d) n p t = (
  eq_of_mul-eq-mul_right (down e) (down_pos e) (k * up d * 8) (n * down d)
      (mul_right_comm (k * up d) 8 (down e) ∙ ap (λ (z : ℕ). z * 8) (sym same) ∙ size ∙ ap (λ (z : ℕ). n * z) (mul_comm (down e) (down d)) ∙ sym (mul_assoc n (down d) (down e))),
  signs s r p.1 parts.1,
)
  where
    A : ℕ
    A = m * up e * down d

    B : ℕ
    B = k * up d * down e

    parts : ((A == B) ≡ true) × ((beq s r || A == 0) ≡ true)
    parts = and_parts (A == B) (beq s r || A == 0) t

    same : A ≡ B
    same = eqb-true A B parts.0

    size : A * 8 ≡ n * (down e * down d)
    size = scaled (m * up e) (down e) (down d) n p.0

    signs : (s r : Bool) → (s ≡ true → n ≡ 0) → (beq s r || A == 0) ≡ true → r ≡ true → n ≡ 0
    signs true r z u g = z refl
    signs false true z u g = eq_of_mul-eq-mul_right (down e * down d) (mul-pos (down_pos e) (down_pos d)) n 0 (sym size ∙ ap (λ (w : ℕ). w * 8) (eqb-true A 0 u) ∙ sym (zero-mul (down e * down d)))
    signs false false z u g = absurd (true≢false (sym g))

pub le_of : (x y : Float) (a b : ℕ) → Is x a → Is y b → a ≤ b → le x y ≡ true
unfolding le
le_of x y a b p q h = elim (dec_lt a b) [
  | yes l ↦ rw (lt_of x y a b p q l)
  | no g ↦ or_right (lt x y) (eq x y) (eq_of x y b (rw (let z : a ≡ b = omega arith in z) at p) q)
]
  where
    or_right : (a b : Bool) → b ≡ true → (a || b) ≡ true
    or_right true b t = refl
    or_right false b t = t
