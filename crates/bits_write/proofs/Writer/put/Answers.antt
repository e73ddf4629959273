-- The held bits and the value make a number; where it is a word or more, the word goes out and the bits over are held.
use mathlib.Core.Path.{◌≡◌, refl, sym, ap, ◌∙◌}
use Prim.Native.Nat.{ℕ, ◌+◌, ◌-◌, ◌*◌, ◌/◌, ◌%◌, ◌^◌, ◌≤◌, ◌<◌}
use native.Mathlib.Omega.{arith}
use lib.Arith.{digits_lt}
use lib.Bits.{bit_or}
use lib.Pow.{pow-add, shr_lt, split}
use Rattle.bits_write.specs.declared.Writer.{Writer}
use Rattle.bits.specs.Bits.{field_at}
use Rattle.bits.specs.Shifts.{masked, behind}
use Rattle.bits_write.proofs.Writer.put.Goals as goal

-- u of a bits and v of b bits behind it, as the code computes their number
abbrev both : ℕ → ℕ → ℕ → ℕ
both u b v = bit_or ((u * 2 ^ b) % 2 ^ 64) v

module _ (p : Writer) (b v : ℕ) (h : p.waiting + b ≤ 64) (l : v < 2 ^ b) where
  both_is : both p.rest b v ≡ p.rest * 2 ^ b + v
  both_is = behind p.rest v p.waiting b h p.ready.small l

  both-lt : both p.rest b v < 2 ^ (p.waiting + b)
  both-lt = rw (both_is, pow-add 2 p.waiting b) (digits_lt p.ready.small l)

pub invariant_of-result : goal.invariant_of-result
invariant_of-result c =
    record { ready = record { part = omega arith; small = both-lt c.args.self c.args.width c.args.value (omega arith) c.requires.value_bound } }

pub returns-then-bits-lt64 : goal.returns-then-bits-lt64
returns-then-bits-lt64 c =
    let p = c.args.self in
    let w = c.args.width in
    let v = c.args.value in
    let n = both_is p w v (omega arith) c.requires.value_bound in
    record {
      long = refl;
      onward = omega arith;
      ends = omega arith;
      spells = rw (n, pow-add 2 p.waiting w) (omega arith);
      after = λ i h. refl;
    }

-- the word that goes out has the first d bits of the value, and the last o are over
module _ (p : Writer) (d o v : ℕ) (e : p.waiting + d ≡ 64) (l : v < 2 ^ (d + o)) where
  high_lt : v / 2 ^ o < 2 ^ d
  high_lt = shr_lt d o l

  word-is : both p.rest d (v / 2 ^ o) ≡ p.rest * 2 ^ d + v / 2 ^ o
  word-is = both_is p d (v / 2 ^ o) (omega arith) high_lt

  word_lt : both p.rest d (v / 2 ^ o) < 2 ^ 64
  word_lt = rw e at (both-lt p d (v / 2 ^ o) (omega arith) high_lt)

  spells : (f : ℕ) → (f * 2 ^ 64 + both p.rest d (v / 2 ^ o)) * 2 ^ o + v % 2 ^ o ≡ (f * 2 ^ p.waiting + p.rest) * 2 ^ (d + o) + v
  spells f =
      let whole : 2 ^ 64 ≡ 2 ^ p.waiting * 2 ^ d = ap (λ (n : ℕ). 2 ^ n) (sym e) ∙ pow-add 2 p.waiting d in
      rw (word-is, whole, pow-add 2 d o) (apart f p.rest (v / 2 ^ o) (v % 2 ^ o) (2 ^ p.waiting) (2 ^ d) (2 ^ o) ∙ ap (λ (x : ℕ). (f * 2 ^ p.waiting + p.rest) * (2 ^ d * 2 ^ o) + x) (split v o))
    where
      apart : (f u q m H D O : ℕ) → (f * (H * D) + (u * D + q)) * O + m ≡ (f * H + u) * (D * O) + (q * O + m)
      apart f u q m H D O = omega arith

pub out-requires : goal.out-requires
out-requires c =
    let p = c.args.self in
    let w = c.args.width in
    let o = p.waiting + w - 64 in
    let all : w - o + o ≡ w = omega (arith, c.args.self.ready.part) in record { n_bound = omega arith; word_bound = word_lt p (w - o) o c.args.value (omega (arith, c.args.self.ready.part)) (rw all c.requires.value_bound); n_in_bounds = omega arith }

pub returns : goal.returns
returns c =
    let p = c.args.self in
    let w = c.args.width in
    let v = c.args.value in
    let o = p.waiting + w - 64 in
    let g = c.out.ensures in
    let rest = masked v o (omega arith) in
    let all : w - o + o ≡ w = omega (arith, c.args.self.ready.part) in
    record {
      long = g.long;
      onward = omega arith;
      ends = omega arith;
      spells = rw (rest, g.spells) (rw all at (spells p (w - o) o v (omega (arith, c.args.self.ready.part)) (rw all c.requires.value_bound) (field_at c.args.bytes.now 0 (8 * p.at))));
      after = g.after;
    }
