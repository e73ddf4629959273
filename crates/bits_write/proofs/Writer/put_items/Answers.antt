-- With k items written, the writer has written their table.
use mathlib.Core.Path.{◌≡◌}
use Prim.Native.Nat.{◌+◌, ◌-◌, ◌≤◌}
use native.Mathlib.Omega.{arith}
use lib.ListN.{length}
use Rattle.bits.specs.Table.{times}
use Rattle.bits.specs.ItemLaws.{length-item, total-item, length_more, total-more-item}
use Rattle.bits_write.specs.Written.{joined}
use Rattle.bits_write.specs.WrittenLaws.{length-item-values, valid-item, joined-item, written_none, written-join}
use Rattle.bits_write.proofs.Writer.put_items.Goals as goal
use Rattle.bits_write.proofs.Writer.put_items.Goals.{In-loop-k}

pub loop-k-init : goal.loop-k-init
unfolding times joined
loop-k-init c = (omega arith, omega arith, written_none _ _)

-- item k ends within the values
ends : (c : In-loop-k) → let l = c.loop-k in l.i + length c.args.ws.now ≤ length c.args.values.now
ends c =
    let l = c.loop-k in
    omega (arith, length-item c.args.ws.now c.args.n l.k c.loop-k-test.true, l.invariant.1, c.requires.values_len)

part : (i m : _) → i + m - i ≡ m
part i m = omega arith

pub put_all-p-requires : goal.put_all-p-requires
put_all-p-requires c =
    let l = c.loop-k in
    let h = c.loop-k-test.true in
    let ws = c.args.ws.now in
    let vs = c.args.values.now in
    let n = c.args.n in
    let all = c.requires.values_len in
    let w = l.invariant.2 in
    record {
      narrow = c.requires.narrow;
      values_len = rw (part l.i (length ws)) ((length-item-values ws vs n l.k l.i h l.invariant.1 all).1);
      valid = rw (part l.i (length ws)) (valid-item ws vs n l.k l.i h l.invariant.1 all c.requires.valid);
      ws_bound = omega (arith, total-item ws n l.k h, w.ends, w.long);
    }

pub loop-k-preserved : goal.loop-k-preserved
loop-k-preserved c =
    let l = c.loop-k in
    let h = c.loop-k-test.true in
    let ws = c.args.ws.now in
    let vs = c.args.values.now in
    let more = joined-item ws vs c.args.n l.k l.i h l.invariant.1 c.requires.values_len in
    let step = rw (part l.i (length ws)) at c.put_all-p.ensures in
    (omega arith, rw (length_more ws l.k) (omega arith), rw (more, total-more-item ws l.k) (written-join l.invariant.2 step))

pub overflow_add-end : goal.overflow_add-end
overflow_add-end c = omega (arith, ends c)

pub offset_bounds-values-i : goal.offset_bounds-values-i
offset_bounds-values-i c = omega (arith, ends (goal.at.offset_bounds-values-i c).In-loop-k)

pub slice_bounds-put_all-end : goal.slice_bounds-put_all-end
slice_bounds-put_all-end c = omega (arith, ends (goal.at.slice_bounds-put_all-end c).In-loop-k)
