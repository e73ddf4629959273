-- What a sample of telemetry is answered (document 02, C-14): the kW of an entry, or a number.
use Rattle.std.specs.Prelude.{[], ◌∷◌, map, ◌≡◌, refl, ℕ, ◌-◌, ◌/◌, Bool, ◌&&◌, cond, leb, Result, Ok, Err}
use Rattle.std.specs.Float.{binary32}
use Rattle.std.specs.Float.Ieee.{of_bits}
use Rattle.limits.specs.Limits.{nominated_limit}
use Rattle.telemetry_eighths.specs.Eighths.{counts, eighths_of}
use Rattle.telemetry.specs.declared.Sample.{Sample}
use Rattle.telemetry.specs.declared.Sample.TheVariants.{Pair, Direct}
use Rattle.refusals.specs.declared.Refusal.{Refusal}
use Rattle.refusals.specs.declared.Refusal.TheVariants.{NotCounted, TooMuch}
use Rattle.refusals.specs.Numbers.{answered}

-- do its values count
abbrev pub all_count : Sample → Bool
all_count (Pair expected metered) = counts expected && counts metered
all_count (Direct reduction) = counts reduction

-- the reduction in eighths: of a pair expected less metered, or 0 where metered is larger, as `-` on ℕ is
abbrev pub eighths_in : Sample → ℕ
eighths_in (Pair expected metered) = eighths_of expected - eighths_of metered
eighths_in (Direct reduction) = eighths_of reduction

-- the eighths are then dropped
abbrev pub kw_in : Sample → ℕ
kw_in s = eighths_in s / 8

-- more than 100,000 kW are too much
unfoldable pub within_limit : ℕ → Result ℕ Refusal
within_limit kw = cond (leb kw nominated_limit) (Ok kw) (Err TooMuch)

-- a value that doesn't count comes first
unfoldable pub reduction_of : Sample → Result ℕ Refusal
reduction_of s = cond (all_count s) (within_limit (kw_in s)) (Err NotCounted)

-- the kW of an answer, 0 where it is refused
abbrev pub kw_of : Result ℕ Refusal → ℕ
kw_of (Ok kw) = kw
kw_of (Err refusal) = 0

-- what a call on a sample answers: its number and its kW
pub record Answers (s : Sample) (number kw : ℕ) : Type 0 where
  pub numbers : number ≡ answered (reduction_of s)
  pub kilowatts : kw ≡ kw_of (reduction_of s)

-- Worked by hand, each value by its bit pattern.
abbrev direct : ℕ → Sample
direct bits = Direct (of_bits binary32 bits)

abbrev pair : ℕ → ℕ → Sample
pair expected metered = Pair (of_bits binary32 expected) (of_bits binary32 metered)

abbrev answer : Sample → ℕ × ℕ
answer s = (answered (reduction_of s), kw_of (reduction_of s))

figures : map answer (
    -- minus zero; 0.875 and 100,000.875, whose eighths are dropped; 100,001 and 131,071.875; 0.0625 and 131,072; a NaN
    direct 0x8000_0000 ∷ direct 0x3f60_0000 ∷ direct 0x47c3_5070 ∷ direct 0x47c3_5080 ∷ direct 0x47ff_fff0 ∷ direct 0x3d80_0000 ∷ direct 0x4800_0000 ∷ direct 0x7fc0_0000
    -- 9.5 less 0.75; 100.625 less 100.5; 100.5 less 100.625, where metered is larger; 7 less minus zero, and the other way
    ∷ pair 0x4118_0000 0x3f40_0000 ∷ pair 0x42c9_4000 0x42c9_0000 ∷ pair 0x42c9_0000 0x42c9_4000 ∷ pair 0x40e0_0000 0x8000_0000 ∷ pair 0x8000_0000 0x40e0_0000
    -- 131,071.875 less 31,071 is 100,000.875; less 31,070.875 it is 100,001
    ∷ pair 0x47ff_fff0 0x46f2_be00 ∷ pair 0x47ff_fff0 0x46f2_bdc0
    -- metered larger, but 131,072, and expected a sixteenth; 131,072 twice; 131,072 less 0; a NaN on either side
    ∷ pair 0x3f80_0000 0x4800_0000 ∷ pair 0x3d80_0000 0x47ff_ff80 ∷ pair 0x4800_0000 0x4800_0000 ∷ pair 0x4800_0000 0x0000_0000 ∷ pair 0x7fc0_0000 0x3f80_0000 ∷ pair 0x3f80_0000 0x7fc0_0000
    ∷ [])
    ≡ (
    (0, 0) ∷ (0, 0) ∷ (0, nominated_limit) ∷ (19, 0) ∷ (19, 0) ∷ (18, 0) ∷ (18, 0) ∷ (18, 0)
    ∷ (0, 8) ∷ (0, 0) ∷ (0, 0) ∷ (0, 7) ∷ (0, 0)
    ∷ (0, nominated_limit) ∷ (19, 0)
    ∷ (18, 0) ∷ (18, 0) ∷ (18, 0) ∷ (18, 0) ∷ (18, 0) ∷ (18, 0)
    ∷ [])
unfolding counts eighths_of within_limit reduction_of of_bits
figures = refl
