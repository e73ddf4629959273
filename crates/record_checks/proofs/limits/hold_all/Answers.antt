-- The largest number of so many bits is a mask of as many ones.
use mathlib.Core.Path.{◌≡◌}
use borrow.Author.Tests.{ne_eqb}
use native.Mathlib.Omega.{arith}
use Rattle.bits.specs.Shifts.{one_shl}
use Rattle.record_layouts.specs.Parts.{hold_all}
use Rattle.record_checks.proofs.limits.hold_all.Goals as goal

pub returns-then-low-eq0 : goal.returns-then-low-eq0
unfolding hold_all
returns-then-low-eq0 c = let low : c.args.low ≡ 0 = omega (arith, c.if-low-eq0.true) in rw (one_shl c.args.width (omega arith), low)

pub returns-else-low-eq0 : goal.returns-else-low-eq0
unfolding hold_all
returns-else-low-eq0 c = rw (ne_eqb c.args.low 0 c.if-low-eq0.false)
