-- The answer to the values of the two patterns.
use mathlib.Core.Path.{◌≡◌}
use lib.Ieee.{binary32, of_bits}
use Rattle.piermint.proofs.piermint_reduction.Goals as goal

pub returns : goal.returns
returns c =
    let a = c.args in
    let expected : c.from_pattern-expected.result ≡ of_bits binary32 a.expected = c.from_pattern-expected.ensures in
    let metered : c.from_pattern-metered.result ≡ of_bits binary32 a.metered = c.from_pattern-metered.ensures in
    rw (← expected, ← metered) c.answer.ensures
