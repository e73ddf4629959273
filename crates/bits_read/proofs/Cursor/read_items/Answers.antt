-- With k items read, their fields are laid over out from its place on, and the cursor stands behind them.
use mathlib.Core.Path.{refl, ap, ◌∙◌}
use Prim.Native.Nat.{◌+◌}
use native.Mathlib.Omega.{arith}
use lib.ListN.{length}
use Rattle.bits.specs.Table.{times, fields_at}
use Rattle.bits.specs.TableLaws.{length_fields, laid_none, length-laid}
use Rattle.bits.specs.ItemLaws.{length-item, length_more, total-more-item, fit-item, out-item}
use Rattle.bits_read.proofs.Cursor.read_items.Goals as goal

pub loop-k-init : goal.loop-k-init
unfolding times
loop-k-init c =
    let a = c.args in
    (omega arith, omega arith, omega arith, refl, laid_none a.to a.out.now)

pub read_fields-c-requires : goal.read_fields-c-requires
read_fields-c-requires c =
    let ws = c.args.ws.now in
    let l = c.loop-k in
    let h = c.loop-k-test.true in
    let f = fit-item ws c.args.items.count l.k h l.c.at c.requires.fit l.invariant.1 in
    record {
      in_word = record { narrows = f.narrows; begins = omega (arith, f.within, c.requires.bits_value); ends = omega (arith, c.requires.bits_value); small = f.small };
      bits_value = c.requires.bits_value;
      ws_in_bounds = omega (arith, length-item ws c.args.items.count l.k h, l.invariant.2, l.invariant.3, c.requires.ws_in_bounds);
    }

pub overflow_add-at : goal.overflow_add-at
overflow_add-at c =
    let l = c.loop-k in
    omega (arith, length-item c.args.ws.now c.args.items.count l.k c.loop-k-test.true, l.invariant.2, c.requires.ws_in_bounds)

pub loop-k-preserved : goal.loop-k-preserved
loop-k-preserved c =
    let xs = c.args.bytes.now in
    let p = c.args.self.at in
    let to = c.args.to in
    let ws = c.args.ws.now in
    let old = c.args.out.now in
    let l = c.loop-k in
    let k = l.k in
    let h = c.loop-k-test.true in
    let t = c.read_fields-c.ensures in
    let fits = length-item ws c.args.items.count k h in
    let out = t.out_after ∙ out-item xs p to ws l.out old k l.at l.c.at l.invariant.2 l.invariant.1 (omega (arith, c.requires.ws_in_bounds)) l.invariant.4 in
    let fs = fields_at xs p (times (k + 1) ws) in
    let long = length-laid to fs old (omega (arith, length_fields xs p (times (k + 1) ws), length_more ws k, c.requires.ws_in_bounds)) in (
      omega arith,
      rw (total-more-item ws k) (omega (arith, t.at_value, l.invariant.1)),
      rw (length_more ws k) (omega (arith, l.invariant.2)),
      ap length out ∙ long,
      out,
    )
