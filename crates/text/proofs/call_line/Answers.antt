-- The words of the line, one after another.
use native.Mathlib.Omega.{arith}
use Rattle.text.specs.Lines.{call_line}
use Rattle.text.specs.Pasted.{then}
use Rattle.text.specs.LineLaws.{decimal-length}
use Rattle.text.proofs.call_line.Goals as goal

pub put_number-p-requires : goal.put_number-p-requires
put_number-p-requires c =
    omega (arith, decimal-length c.args.number)

pub put_byte-p-requires : goal.put_byte-p-requires
put_byte-p-requires c =
    omega (arith, decimal-length c.args.number)

pub put_bytes-p-requires : goal.put_bytes-p-requires
put_bytes-p-requires c =
    omega (arith, decimal-length c.args.number)

pub put_byte-requires : goal.put_byte-requires
put_byte-requires c =
    omega (arith, decimal-length c.args.number)

pub returns : goal.returns
unfolding call_line
returns c =
    then c.put_decimal-p.ensures (then c.put_number-p.ensures.pasted (then c.put_byte-p.ensures (then c.put_bytes-p.ensures.pasted c.put_byte.ensures)))
