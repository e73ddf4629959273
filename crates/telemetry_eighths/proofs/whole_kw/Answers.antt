-- The cast drops the fraction, which is the eighths.
use Rattle.std.proofs.Common.{◌≡◌, ◌∙◌}
use lib.Ieee.{to_unsigned}
use Rattle.telemetry_eighths.proofs.Casts.{kw-castable, kw-cast}
use Rattle.telemetry_eighths.proofs.whole_kw.Goals as goal

pub returns : goal.returns
returns c =
    let x = c.args.x in
    let cut : c.truncating_f32_to_u64.result ≡ to_unsigned 64 x = c.truncating_f32_to_u64.ensures in
    cut ∙ kw-cast x c.requires

pub truncating_f32_to_u64-requires : goal.truncating_f32_to_u64-requires
truncating_f32_to_u64-requires c =
    let fits = kw-castable c.args.x c.requires in
    record { lower_bound = fits.0; upper_bound = fits.1 }
