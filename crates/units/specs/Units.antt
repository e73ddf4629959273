-- The two units of kilowatts: their limits, the conversion, and its laws.
use Rattle.std.specs.Prelude.{ℕ, ◌*◌, ◌/◌, ◌≤◌, ◌≡◌}
use Rattle.std.proofs.Common.{arith, zero-mul, mul_assoc, mul-le-mul, mul-le-mul_left}
use Rattle.limits.specs.Limits.{nominated_limit, unforced_limit, factor_limit}

-- a nominated kilowatts, converted: a × DR Factor × Forecast Pool Requirement / 100,000,000
unfoldable pub convert : ℕ → ℕ → ℕ → ℕ
convert factor requirement a = a * factor * requirement / 100000000

pub convert-zero : (f r : ℕ) → convert f r 0 ≡ 0
unfolding convert
convert-zero f r = rw (zero-mul f, zero-mul r)

-- the product that the conversion divides
pub product_le : {f r : ℕ} (a : ℕ) → f ≤ factor_limit → r ≤ factor_limit → a * f * r ≤ a * 144000000
product_le {f} {r} a hf hr = rw mul_assoc (mul-le-mul_left a (mul-le-mul hf hr))

-- at most 1.44 unforced for each nominated
pub convert-scaled : {f r : ℕ} (a : ℕ) → f ≤ factor_limit → r ≤ factor_limit → convert f r a * 100 ≤ a * 144
unfolding convert
convert-scaled {f} {r} a hf hr = omega (arith, product_le a hf hr)

-- one registration's
pub convert-le : {f r a : ℕ} → f ≤ factor_limit → r ≤ factor_limit → a ≤ nominated_limit → convert f r a ≤ unforced_limit
unfolding convert
convert-le {a = a} hf hr ha = omega (arith, product_le a hf hr)
