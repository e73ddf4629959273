-- A space, then the digits.
use native.Mathlib.Omega.{arith}
use Rattle.text.specs.Pasted.{then}
use Rattle.text.specs.LineLaws.{decimal-length}
use Rattle.text.proofs.put_number.Goals as goal

pub returns : goal.returns
returns c =
    let e = then c.put_byte-p.ensures c.put_decimal.ensures in record { pasted = e; upper_bound = omega (arith, e.next, decimal-length c.args.n) }
