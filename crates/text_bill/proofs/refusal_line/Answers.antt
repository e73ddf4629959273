-- The words of the line, one after another.
use Rattle.text_bill.specs.Text.{refusal_line}
use Rattle.text.specs.Pasted.{then}
use Rattle.text_bill.proofs.refusal_line.Goals as goal

pub returns : goal.returns
unfolding refusal_line
returns c =
    then c.put_byte-p.ensures (then c.put_number-p.ensures.pasted (then c.put_number-p-2.ensures.pasted c.put_byte.ensures))
