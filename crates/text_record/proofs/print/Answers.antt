-- The numbers of a record that is taken apart, or the question that refuses it.
use native.Mathlib.Omega.{arith}
use mathlib.Core.Path.{refl, sym}
use lib.Seq.{length-take-le}
use borrow.Author.Tests.{ne_eqb}
use Rattle.refusals.specs.Numbers.{number}
use Rattle.record_parse.specs.Answers.{number-some}
use Rattle.text_record.specs.Line.{record_line, count-few, count-within, values-front}
use Rattle.text_record.proofs.print.Goals as goal

pub parse-requires : goal.parse-requires
parse-requires c = refl

pub slice_bounds-values-end : goal.slice_bounds-values-end
slice_bounds-values-end c = count-within c.args.bytes.now c.in-Ok.ensures refl

pub slice_bounds-numbers_line-end : goal.slice_bounds-numbers_line-end
slice_bounds-numbers_line-end c = sym (length-take-le c.in-Ok.record.count c.parse.new.values (count-within c.args.bytes.now c.in-Ok.ensures refl))

pub numbers_line-requires : goal.numbers_line-requires
numbers_line-requires c =
    let bytes = c.args.bytes.now in
    let read = c.in-Ok.ensures in
    omega (arith, count-few bytes read refl, length-take-le c.in-Ok.record.count c.parse.new.values (count-within bytes read refl))

pub returns-in-Ok-clause-pasted : goal.returns-in-Ok-clause-pasted
unfolding record_line
returns-in-Ok-clause-pasted c =
    let read = c.in-Ok.ensures in
    rw (← read.numbers, ← values-front c.args.bytes.now read refl) c.numbers_line.ensures

pub returns-in-Err-clause-pasted : goal.returns-in-Err-clause-pasted
unfolding record_line
returns-in-Err-clause-pasted c =
    let q = c.in-Err.refused.refusal in
    rw (← c.in-Err.ensures.numbers, ne_eqb (number q) 0 (number-some q)) (rw c.number.ensures at c.refusal_line.ensures)
