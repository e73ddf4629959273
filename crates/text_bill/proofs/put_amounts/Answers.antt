-- After each turn the amounts so far stand in the buffer, and the cursor behind their bits.
use native.Mathlib.Omega.{arith}
use mathlib.Core.Path.{◌≡◌}
use Rattle.bits.specs.BitLaws.{field_lt}
use Rattle.text_bill.specs.Text.{amount_at}
use Rattle.text.specs.Pasted.{pasted_length}
use Rattle.text_bill.specs.TextLaws.{lines_none, lines_step}
use Rattle.text_bill.proofs.put_amounts.Goals as goal

pub loop-init : goal.loop-init
loop-init c =
    let a = c.args in
    (omega arith, lines_none (amount_at a.statement.now) 42 a.from.next.at a.out.now a.from.at (omega arith), omega arith, omega arith)

pub read_field-amount-requires : goal.read_field-amount-requires
read_field-amount-requires c =
    let l = c.loop in
    record { some = omega arith; narrow = omega arith; within = omega (arith, c.requires.lies.within, l.invariant.3); small = omega (arith, c.requires.lies.small, l.invariant.3) }

pub put_amount-requires : goal.put_amount-requires
put_amount-requires c =
    let l = c.loop in
    let same = pasted_length l.invariant.1 in record { bits_bound = omega (arith, c.read_field-amount.ensures.value, field_lt c.args.statement.now l.place.next.at 42); at_in_bounds = omega (arith, c.requires.n_in_bounds, l.invariant.2) }

pub loop-preserved : goal.loop-preserved
loop-preserved c =
    let a = c.args in
    let l = c.loop in
    let take = c.read_field-amount.ensures in
    let put = c.put_amount.ensures in
    let line = rw (take.value, l.invariant.3) at put.pasted in
    (omega arith, lines_step (amount_at a.statement.now) 42 a.from.next.at l.counter l.invariant.1 line, omega (arith, put.upper_bound, l.invariant.2), omega (arith, take.next, l.invariant.3))

pub returns : goal.returns
returns c =
    let l = c.loop in
    let all : l.counter ≡ c.args.n = omega arith in record { puts = rw (← all) l.invariant.1; reaches = (omega arith, omega arith) }

pub shape_of-out : goal.shape_of-out
shape_of-out c = pasted_length c.loop.invariant.1
