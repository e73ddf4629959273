-- The digits of a tenth, and then the last digit: the definition's own recursion.
use Rattle.std.proofs.Common.{ap, arith, length, length-append}
use Rattle.text.specs.Pasted.{then}
use Rattle.text.specs.LineLaws.{decimal-one, decimal-more, decimal-length}
use Rattle.text.proofs.+put_decimal.Goals as goal

pub returns-then-n-lt10 : goal.returns-then-n-lt10
returns-then-n-lt10 t c = rw (decimal-one c.args.n c.if-n-lt10.true) c.put_byte.ensures

pub put_byte-requires-2 : goal.put_byte-requires-2
put_byte-requires-2 t c =
    let n = c.args.n in
    let more = decimal-more n c.if-n-lt10.false c.ranges.n.fits in
    let long = simp length-append at (ap length more) in
    omega (arith, decimal-length n, c.put_decimal-p.auto.out, c.put_decimal-p.ensures.next)

pub returns : goal.returns
returns t c =
    rw (decimal-more c.args.n c.if-n-lt10.false c.ranges.n.fits) (then c.put_decimal-p.ensures c.put_byte-2.ensures)
