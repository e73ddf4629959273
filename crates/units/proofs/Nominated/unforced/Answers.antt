-- `Nominated::unforced` meets its contract: both products fit, since the factors are at most 12,000.
use native.Mathlib.Omega.{arith}
use native.Mathlib.Nat.{mul-le-mul}
use Rattle.units.specs.Units.{product_le}
use Rattle.units.proofs.Nominated.unforced.Goals as goal

pub overflow_mul-result : goal.overflow_mul-result
overflow_mul-result c = record { fits = omega (arith, mul-le-mul c.requires.0 c.requires.1) }

pub overflow_mul-result-2 : goal.overflow_mul-result-2
overflow_mul-result-2 c = record { fits = omega (arith, product_le c.args.self.0 c.requires.1 c.requires.2) }
