-- The words of the line, one after another.
use native.Mathlib.Omega.{arith}
use Rattle.text_bill.specs.Text.{month_line}
use Rattle.text.specs.Pasted.{then}
use Rattle.text_bill.proofs.put_month.Goals as goal

pub returns : goal.returns
unfolding month_line
returns c = record {
  pasted = then c.put_byte-p.ensures (then c.put_number-p.ensures.pasted c.put_byte.ensures);
  upper_bound = omega (arith, c.put_byte-p.ensures.next, c.put_number-p.ensures.upper_bound, c.put_byte.ensures.next);
}
