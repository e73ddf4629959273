-- What is lent is the line's numbers and the rest of the output buffer.
use Prim.Native.Nat.{◌+◌, ◌-◌}
use mathlib.Core.Path.{◌≡◌, refl, sym, ap, ◌∙◌}
use native.Mathlib.Omega.{arith}
use native.Mathlib.Nat.{add-zero}
use mathlib.Core.Bool.{false}
use mathlib.Core.List.{◌++◌}
use lib.ListN.{length, take, drop, length-drop}
use lib.Seq.{length-take-le, take_all}
use Rattle.refusals.specs.Numbers.{answered}
use Rattle.record_numbers.specs.Calls.{Writes}
use Rattle.record_write.specs.Encoding.{written_of}
use Rattle.text.specs.Pasted.{Pasted}
use Rattle.text_record.specs.Packs.{kept, line_number, line_record, kept-front, cut_record, written-number, written-record}
use Rattle.text_record.proofs.packed_line.pack.Goals as goal
use Rattle.text_record.proofs.packed_line.pack.Goals.{After-write}

-- the call's contract, with the numbers and the slice as they are lent
wrote : (c : After-write)
    → Writes (kept c.args.line.now) (drop c.args.at c.args.out.now) (answered c.write.result) (written_of c.write.result) c.write.new.bytes
wrote c =
    let d = c.decimals-n in
    let a = c.args in
    let out = a.out.now in
    let numbers : take d.result d.new.out ≡ kept a.line.now = ap (take d.result) d.ensures.out_after ∙ kept-front a.line.now _ d.result d.ensures.value refl in
    let rest : take (length out - a.at) (drop a.at out) ≡ drop a.at out = take_all (length out - a.at) (drop a.at out) (omega (arith, length-drop a.at out)) in
    rw (numbers, rest) at c.write.ensures

pub returns-then-cut : goal.returns-then-cut
unfolding line_number
returns-then-cut c =
    record { number_value = rw c.if-cut.true refl; pasted = rw c.if-cut.true (cut_record c.args.line.now c.args.out.now c.args.at (omega arith)) }

pub slice_bounds-write-end : goal.slice_bounds-write-end
slice_bounds-write-end c =
    let d = c.decimals-n in
    sym (length-take-le d.result d.new.out (omega (arith, d.auto.out, d.ensures.value)))

-- what stands behind it, and its number
packed : (c : After-write) → Pasted c.args.out.now (take c.args.at c.args.out.now ++ (c.write.new.bytes ++ drop (length c.args.out.now - c.args.at) (drop c.args.at c.args.out.now))) c.args.at (line_record false c.args.line.now) (c.args.at + written_of c.write.result)
packed c = written-record c.args.line.now c.args.out.now c.args.at c.requires (wrote c)

numbered : (c : After-write) → answered c.write.result ≡ line_number false c.args.line.now
numbered c = written-number c.args.line.now c.args.out.now c.args.at c.requires (wrote c)

pub returns-in-Err : goal.returns-in-Err
returns-in-Err c =
    let after = (goal.at.returns-in-Err c).After-write in
    record {
      number_value = rw c.if-cut.false (rw c.in-Err.is at (numbered after));
      pasted = rw c.if-cut.false (rw (c.in-Err.is, add-zero) at (packed after));
    }

pub overflow_add-result : goal.overflow_add-result
overflow_add-result c = omega (arith, (rw c.in-Ok.is at (packed (goal.at.overflow_add-result c).After-write)).within)

pub returns-in-Ok : goal.returns-in-Ok
returns-in-Ok c =
    let after = (goal.at.returns-in-Ok c).After-write in
    record {
      number_value = rw c.if-cut.false (rw c.in-Ok.is at (numbered after));
      pasted = rw c.if-cut.false (rw c.in-Ok.is at (packed after));
    }
