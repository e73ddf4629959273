-- The letter, the id and the amounts, one behind another, make the line.
use native.Mathlib.Omega.{arith}
use Rattle.text_bill.specs.Text.{party_line}
use Rattle.text.specs.Pasted.{then}
use Rattle.text_bill.proofs.put_party.Goals as goal

pub returns : goal.returns
unfolding party_line
returns c =
    let field = c.read_field-id.ensures in
    let letter = c.put_byte-p.ensures in
    let id = c.put_number.ensures in
    let amounts = c.put_amounts-place.ensures in
    let end = c.put_byte.ensures in
    let line = then letter (then id.pasted (then amounts.puts end)) in record { puts = rw (field.value, field.next) at line; reaches = (omega (arith, letter.next, id.upper_bound, amounts.reaches, end.next), omega (arith, field.next, amounts.reaches)) }
