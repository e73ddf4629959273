-- With j lists passed, the place of list j.
use Prim.Native.Nat.{◌<◌}
use lib.ListN.{length}
use native.Mathlib.Omega.{arith}
use Rattle.record_layouts.specs.Layout.{lists, rules_to}
use Rattle.record_layouts.specs.ListLaws.{length-list, stated-list, stated-count}
use Rattle.record_shapes.proofs.list_at.Goals as goal

pub loop-j-init : goal.loop-j-init
unfolding rules_to
loop-j-init c = c.head_of-from.ensures

pub overflow_add-from : goal.overflow_add-from
overflow_add-from c =
    let inside : c.loop-j.j < length (lists c.args.kind) = omega arith in
    omega (arith, c.list_from-from.ensures.numbers, stated-list c.requires.stated inside, stated-count c.requires.stated)

pub loop-j-preserved : goal.loop-j-preserved
loop-j-preserved c =
    omega (arith, c.list_from-from.ensures.numbers, length-list c.args.kind c.args.values.now c.loop-j.j)
