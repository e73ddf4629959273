-- The test of Year A made from samples, computed over the definitions: 1,000.5 kW expected and 400.375 metered, which is 600.125, and 2,100.875 direct give its bytes.
use Rattle.std.specs.Prelude.{ℕ, cond, [], ◌∷◌, ◌≡◌, refl, eqb}
use Rattle.std.specs.Float.{binary32}
use Rattle.std.specs.Float.Ieee.{of_bits}
use Rattle.ids.specs.Ids.{any_to, tabulate}
use Rattle.bits.specs.Bits.{bit_at, number}
use Rattle.bits.specs.Table.{times}
use Rattle.bits.specs.Pack.{bits_of, spell, byte_of, bytes_of, pack, encode}
use Rattle.record_layouts.specs.Layout.{items_in, rules_to, rules_for}
use Rattle.record_layouts.specs.Questions.{rules_by}
use Rattle.record_numbers.specs.Reductions.{reduces_in, is_reduction, with_reductions}
use Rattle.record_numbers.specs.Calls.{bytes_by}
use Rattle.telemetry.specs.declared.Sample.{Sample}
use Rattle.telemetry.specs.declared.Sample.TheVariants.{Pair, Direct}
use Rattle.telemetry_eighths.specs.Eighths.{counts, eighths_of}
use Rattle.telemetry.specs.Reduction.{within_limit, reduction_of}
use Rattle.claim_sampled.specs.Sampled.{made}

-- that of number 7, the first entry's, and that of number 9, the second's
abbrev samples : ℕ → Sample
samples j = cond (eqb j 7) (Pair (of_bits binary32 0x447a_2000) (of_bits binary32 0x43c8_3000)) (Direct (of_bits binary32 0x4503_4e00))

figures : bytes_by (made samples (5 ∷ 1 ∷ 0 ∷ 1 ∷ 0 ∷ 2 ∷ 0 ∷ 0 ∷ 1 ∷ 0 ∷ [])) ≡ (0x52 ∷ 0x08 ∷ 0x01 ∷ 0x00 ∷ 0x02 ∷ 0x58 ∷ 0x04 ∷ 0x10 ∷ 0x68 ∷ [])
unfolding bytes_by with_reductions is_reduction reduces_in any_to tabulate bit_at number times items_in rules_to rules_for rules_by bits_of spell byte_of bytes_of pack encode reduction_of within_limit counts eighths_of of_bits
figures = refl
