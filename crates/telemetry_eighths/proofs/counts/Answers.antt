-- A value passes the three tests exactly where it counts.
use Rattle.std.proofs.Common.{ℕ, ◌^◌, ◌<◌, ◌≤◌, pos, ap, ◌∙◌, arith, le→leb}
use lib.Ieee.{binary32, of_bits, mul, div, of_int, lt, le, eq, in_float}
use Rattle.telemetry_eighths.specs.Eighths.{edge}
use Rattle.telemetry_eighths.specs.Values.{nought, eight, bound}
use Rattle.telemetry_eighths.proofs.Casts.{castable, cut-lt, passes-low, passes-high, told, fails}
use Rattle.telemetry_eighths.proofs.counts.Goals as goal

-- the literals 0.0, 8.0 and 1048576.0 stand in the goals by their patterns, which are `nought`, `eight` and `bound` under `unfolding of_bits`
pub returns-then-eighths-2 : goal.returns-then-eighths-2
unfolding of_bits
returns-then-eighths-2 c =
    let x = c.args.x in
    ap (λ (n : ℕ). eq (div binary32 (of_int binary32 (pos n)) eight) x) c.truncating_f32_to_u64-n.ensures ∙ told x c.if-eighths.true c.if-eighths-2.true

pub returns-else-eighths-2 : goal.returns-else-eighths-2
unfolding of_bits
returns-else-eighths-2 c = let x = c.args.x in fails x (lt (mul binary32 x eight) bound) c.if-eighths-2.false (passes-high x)

pub returns-else-eighths : goal.returns-else-eighths
unfolding of_bits
returns-else-eighths c = let x = c.args.x in fails x (le nought (mul binary32 x eight)) c.if-eighths.false (passes-low x)

pub truncating_f32_to_u64-n-requires : goal.truncating_f32_to_u64-n-requires
unfolding of_bits
truncating_f32_to_u64-n-requires c =
    let fits = castable (mul binary32 c.args.x eight) c.if-eighths.true c.if-eighths-2.true in
    record { lower_bound = fits.0; upper_bound = fits.1 }

pub int_to_float-result : goal.int_to_float-result
unfolding of_bits in_float
int_to_float-result c =
    let n = c.truncating_f32_to_u64-n.result in
    let y = mul binary32 c.args.x eight in
    let small : n < edge = rw c.truncating_f32_to_u64-n.ensures (cut-lt y c.if-eighths.true c.if-eighths-2.true) in
    le→leb n (2 ^ 24) (let l : n ≤ 2 ^ 24 = omega (arith, small) in l)
