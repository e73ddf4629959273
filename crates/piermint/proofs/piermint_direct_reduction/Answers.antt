-- The answer to the value of the pattern.
use mathlib.Core.Path.{◌≡◌}
use lib.Ieee.{binary32, of_bits}
use Rattle.piermint.proofs.piermint_direct_reduction.Goals as goal

pub returns : goal.returns
returns c =
    let value : c.from_pattern.result ≡ of_bits binary32 c.args.reduction = c.from_pattern.ensures in
    rw (← value) c.answer.ensures
