-- Laws of what samples are answered: kW within an entry's limit, and every such kW from some sample.
use Rattle.std.specs.Prelude.{ℕ, ◌*◌, ◌≤◌, Bool, true, false, cond, ◌≡◌, refl, leb, Ok, Err}
use Rattle.std.proofs.Common.{arith, mul-div_cancel, lit<, leb-true, le-leb}
use Rattle.std.specs.Float.{binary32}
use Rattle.std.specs.Float.Ieee.{round}
use Rattle.limits.specs.Limits.{nominated_limit}
use Rattle.telemetry_eighths.specs.Values.{each}
use Rattle.telemetry.specs.Reduction.{all_count, kw_in, within_limit, reduction_of, kw_of}
use Rattle.telemetry.specs.declared.Sample.{Sample}
use Rattle.telemetry.specs.declared.Sample.TheVariants.{Direct}
use Rattle.refusals.specs.declared.Refusal.TheVariants.{NotCounted, TooMuch}

pub kw-most : (s : Sample) → kw_of (reduction_of s) ≤ nominated_limit
unfolding reduction_of within_limit
kw-most s = go (all_count s) (leb (kw_in s) nominated_limit) refl
  where
    go : (a b : Bool) → leb (kw_in s) nominated_limit ≡ b → kw_of (cond a (cond b (Ok (kw_in s)) (Err TooMuch)) (Err NotCounted)) ≤ nominated_limit
    go true true e = leb-true (kw_in s) nominated_limit e
    go true false e = omega arith
    go false b e = omega arith

-- the direct reduction of k kW
abbrev pub sample_of : ℕ → Sample
sample_of k = Direct (round binary32 false (k * 8) 8)

pub sample-of : (k : ℕ) → k ≤ nominated_limit → reduction_of (sample_of k) ≡ Ok k
unfolding reduction_of within_limit
sample-of k h =
    let p = each (k * 8) (omega arith) in
    rw (p.0, p.1, mul-div_cancel k {n = 8} (lit< tt), le-leb k nominated_limit h)
