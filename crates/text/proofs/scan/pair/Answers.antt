-- A digit is below 16, so two make a byte.
use native.Mathlib.Omega.{arith}
use Rattle.text.proofs.Digits.{digit_lt}
use Rattle.text.proofs.scan.pair.Goals as goal

pub overflow_mul-result : goal.overflow_mul-result
overflow_mul-result c = omega (arith, digit_lt c.args.high)

pub overflow_add-result : goal.overflow_add-result
overflow_add-result c = omega (arith, digit_lt c.args.high, digit_lt c.args.low)
