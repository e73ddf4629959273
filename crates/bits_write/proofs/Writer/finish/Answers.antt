-- Zero bits behind those held make the last byte whole.
use mathlib.Core.Path.{◌≡◌}
use Prim.Native.Nat.{ℕ, ◌+◌, ◌-◌, ◌*◌, ◌/◌, ◌%◌, ◌^◌, ◌≤◌, ◌<◌}
use native.Mathlib.Omega.{arith}
use lib.Pow.{pow-add, shl_exact, shl_lt}
use Rattle.bits.specs.Bits.{field_at}
use Rattle.bits_write.specs.declared.Writer.{Writer}
use Rattle.bits_write.specs.Written.{written_bits}
use Rattle.bits_write.proofs.Writer.finish.Goals as goal

-- the bits held, and n zero bits behind them
module _ (p : Writer) (n m : ℕ) (e : p.waiting + n ≡ m) (l : m ≤ 64) where
  filled : (p.rest * 2 ^ n) % 2 ^ 64 ≡ p.rest * 2 ^ n
  filled = shl_exact {a = p.rest} p.waiting n 64 p.ready.small (omega arith)

  filled-lt : (p.rest * 2 ^ n) % 2 ^ 64 < 2 ^ m
  filled-lt = rw (filled, ← e) (shl_lt {a = p.rest} p.waiting n p.ready.small)

  spells : (f : ℕ) → f * 2 ^ m + (p.rest * 2 ^ n) % 2 ^ 64 ≡ (f * 2 ^ p.waiting + p.rest) * 2 ^ n
  spells f = rw (filled, ← e, pow-add 2 p.waiting n) (omega arith)

pub out-requires : goal.out-requires
out-requires c =
    let p = c.args.self in
    let size = (p.waiting + 7) / 8 in record { n_bound = omega (arith, c.args.self.ready.part); word_bound = filled-lt p (8 * size - p.waiting) (8 * size) (omega arith) (omega (arith, c.args.self.ready.part)); n_in_bounds = omega arith }

pub returns : goal.returns
returns c =
    let p = c.args.self in
    let size = (p.waiting + 7) / 8 in
    let g = c.out.ensures in
    let fill : 8 * (p.at + size) - written_bits p ≡ 8 * size - p.waiting = omega arith in
    record {
      long = g.long;
      ends = omega arith;
      spells = rw (g.spells, fill) (spells p (8 * size - p.waiting) (8 * size) (omega arith) (omega (arith, c.args.self.ready.part)) (field_at c.args.bytes.now 0 (8 * p.at)));
      after = g.after;
    }
