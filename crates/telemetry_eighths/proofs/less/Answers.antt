-- The exact case, or 0 where metered is larger.
use Rattle.std.proofs.Common.{◌<◌, sym, refl, ◌∙◌, arith, ltb-false, ltb-true}
use lib.Ieee.{Float, of_bits, binary32}
use Rattle.telemetry_eighths.specs.Eighths.{counts, eighths_of, Less}
use Rattle.telemetry_eighths.proofs.Differences.{sub-exact, lt-counts}
use Rattle.telemetry_eighths.proofs.less.Goals as goal

none : (x y : Float) → eighths_of x < eighths_of y → Less x y (of_bits binary32 0)
unfolding counts eighths_of of_bits
none x y l = record { subtracted = λ h. absurd (let z : ⊥ = omega arith in z); counted = refl; exact = omega arith }

pub returns-then-l : goal.returns-then-l
returns-then-l c =
    let x = c.args.l.expected in
    let y = c.args.l.metered in
    none x y (ltb-true (eighths_of x) (eighths_of y) (sym (lt-counts x y c.requires.expected_value c.requires.metered_value) ∙ c.if-l.true))

pub returns : goal.returns
returns c =
    let x = c.args.l.expected in
    let y = c.args.l.metered in
    sub-exact x y c.requires.expected_value c.requires.metered_value (ltb-false (eighths_of x) (eighths_of y) (sym (lt-counts x y c.requires.expected_value c.requires.metered_value) ∙ c.if-l.false))
