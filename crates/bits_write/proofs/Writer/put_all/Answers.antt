-- With i values written, the writer has written their table.
use mathlib.Core.List.{[], ◌∷◌, ◌++◌}
use mathlib.Core.Path.{◌≡◌}
use Prim.Native.Nat.{◌+◌}
use native.Mathlib.Omega.{arith}
use lib.ListN.{length, length-append}
use Rattle.std.proofs.lemmas.Slice.Zip.{zip_turn}
use Rattle.bits.specs.TableLaws.{width-in, total-in, total-more, valid-in}
use Rattle.bits_write.specs.Written.{joined}
use Rattle.bits_write.specs.WrittenLaws.{joined-more, written_none, written-join}
use Rattle.bits_write.proofs.Writer.put_all.Goals as goal

pub loop-w-init : goal.loop-w-init
unfolding joined
loop-w-init c = written_none _ _

pub put-p-requires : goal.put-p-requires
put-p-requires c =
    let ws = c.args.ws.now in
    let vs = c.args.values.now in
    let i = length c.loop-w.yielded in
    let t = zip_turn ws vs c.loop-w.yielded c.into_iter-w-iterator.result c.loop-w.w-iterator c.next.new.self _ (cc) (cc) c.loop-w.yielded_by _ c.in-Some.is c.next.ensures.steps in
    let done = c.loop-w.invariant in
    record {
      width_bound = rw (t.2 0) (width-in ws i c.requires.narrow t.0).1;
      value_bound = rw (t.2 0, t.3 0) (valid-in ws vs i c.requires.valid t.0 t.1);
      width_bound_2 = omega (arith, t.2 0, total-in ws i t.0, done.ends, done.long);
    }

pub loop-w-preserved : goal.loop-w-preserved
loop-w-preserved c =
    let ws = c.args.ws.now in
    let vs = c.args.values.now in
    let i = length c.loop-w.yielded in
    let t = zip_turn ws vs c.loop-w.yielded c.into_iter-w-iterator.result c.loop-w.w-iterator c.next.new.self _ (cc) (cc) c.loop-w.yielded_by _ c.in-Some.is c.next.ensures.steps in
    let more : length (c.loop-w.yielded ++ ((c.in-Some.w, c.in-Some.v) ∷ [])) ≡ i + 1 = length-append c.loop-w.yielded _ in
    rw (more, total-more ws i t.0, joined-more ws vs i t.0 t.1) (written-join c.loop-w.invariant (rw (t.2 0, t.3 0) at c.put-p.ensures))
