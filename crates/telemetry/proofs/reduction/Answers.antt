-- A direct reduction goes with nothing metered.
use mathlib.Core.Path.{◌≡◌, sym, ap, ◌∙◌}
use mathlib.Core.Bool.{and-true}
use native.Mathlib.Nat.{sub-zero}
use lib.Ieee.{Float, binary32, of_bits}
use Rattle.telemetry_eighths.specs.Eighths.{counts, eighths_of}
use Rattle.telemetry.specs.Reduction.{reduction_of}
use Rattle.telemetry.specs.declared.Sample.TheVariants.{Pair, Direct}
use Rattle.telemetry.proofs.reduction.Goals as goal

-- 0.0 counts, as no eighths
with_none : (x : Float) → reduction_of (Pair x (of_bits binary32 0)) ≡ reduction_of (Direct x)
unfolding reduction_of counts eighths_of of_bits
with_none x = rw (and-true, sub-zero)

pub returns-in-Direct : goal.returns-in-Direct
returns-in-Direct c = c.of_loads-in-Direct.ensures ∙ with_none c.in-Direct.reduction ∙ sym (ap reduction_of c.in-Direct.is)
