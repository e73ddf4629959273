-- Laws of lines: equal tests, and the bits that they take.
use Prim.Native.Nat.{ℕ, zero, suc, ◌+◌, ◌*◌, ◌≤◌, ◌<◌}
use Rattle.std.specs.Prelude.{Bool, List, [], ◌∷◌, ◌++◌, ◌≡◌, refl}
use Rattle.std.proofs.Math.Bool.{true, false, cond}
use Rattle.std.proofs.lemmas.List.{map-append}
use Rattle.std.proofs.Common.{◌∙◌, mul-suc, mul-le-mul_left}
use native.Mathlib.Omega.{arith}
use Rattle.std.proofs.Math.Nat.{mul-add}
use Rattle.ids.specs.Ids.{sum_to, count_to, tabulate}
use Rattle.ids.specs.Sums.{count_most}
use Rattle.bits.specs.Table.{total}
use Rattle.bits.specs.TableLaws.{total-append}
use Rattle.statement.specs.Statement.{Field, widths_of, amount_field, line_fields, lines_to}

pub lines_same : (n : ℕ) {p q : ℕ → Bool} (f : ℕ → List Field) → ((i : ℕ) → i < n → p i ≡ q i) → lines_to n p f ≡ lines_to n q f
unfolding lines_to
lines_same zero f h = refl
lines_same (suc n) f h = rw (lines_same n f (λ i l. h i (omega arith)), h n (omega arith))

-- how many bits the fields take
abbrev pub bits_in : List Field → ℕ
bits_in fs = total (widths_of fs)

pub bits-append : (a b : List Field) → bits_in (a ++ b) ≡ bits_in a + bits_in b
bits-append a b = rw (map-append (λ f. f.0) a b) (total-append (widths_of a) (widths_of b))

-- amounts have 42 bits each, and an id before them four
pub amounts-bits : (n : ℕ) (now before : List ℕ) (i : ℕ) → bits_in (tabulate n (amount_field now before i)) ≡ 42 * n
unfolding tabulate
amounts-bits zero now before i = refl
amounts-bits (suc n) now before i =
    bits-append (tabulate n (amount_field now before i)) (amount_field now before i n ∷ []) ∙ omega (arith, amounts-bits n now before i)

module _ (n : ℕ) (now before : List ℕ) where
  pub lines-bits : (p : ℕ → Bool) (m : ℕ) → bits_in (lines_to m p (line_fields n now before)) ≡ (4 + 42 * n) * count_to m p
  unfolding lines_to line_fields sum_to
  lines-bits p zero = omega arith
  lines-bits p (suc m) =
      bits-append (lines_to m p (line_fields n now before)) (cond (p m) (line_fields n now before m) []) ∙ go (p m) (lines-bits p m)
    where
      go : (b : Bool) → bits_in (lines_to m p (line_fields n now before)) ≡ (4 + 42 * n) * count_to m p
          → bits_in (lines_to m p (line_fields n now before)) + bits_in (cond b (line_fields n now before m) []) ≡ (4 + 42 * n) * (count_to m p + cond b 1 0)
      go true r = omega (arith, r, amounts-bits n now before m, mul-add (4 + 42 * n) (count_to m p) 1)
      go false r = omega (arith, r, mul-add (4 + 42 * n) (count_to m p) 0)

  -- behind the lines of the ids before i there is room for one more, where there is for m
  pub lines-room : (p : ℕ → Bool) (i m : ℕ) → i < m → bits_in (lines_to i p (line_fields n now before)) + (4 + 42 * n) ≤ (4 + 42 * n) * m
  lines-room p i m l =
      let few : suc (count_to i p) ≤ m = omega (arith, count_most i p) in
      omega (arith, lines-bits p i, mul-suc (4 + 42 * n) (count_to i p), mul-le-mul_left (4 + 42 * n) few)
