-- With i lists passed, the shape of what is before list i.
use mathlib.Core.Path.{◌≡◌}
use Prim.Native.Nat.{◌<◌}
use lib.ListN.{length}
use native.Mathlib.Omega.{arith}
use Rattle.record_layouts.specs.Layout.{lists, rules_to, rules_for}
use Rattle.record_layouts.specs.ListLaws.{length-list, total-list, stated-list, stated-count}
use Rattle.record_shapes.proofs.shape_of.Goals as goal
use Rattle.record_shapes.proofs.shape_of.Goals.{In-loop-i}

-- the loop is at a list
inside : (c : In-loop-i) → c.loop-i.i < length (lists c.args.kind)
inside c = omega (arith, c.lists_of-i-end.ensures)

pub loop-i-init : goal.loop-i-init
unfolding rules_to
loop-i-init c = record { count = omega (arith, c.part_at-head.ensures.long); bits = c.part_at-head.ensures.bits }

pub overflow_add-shape : goal.overflow_add-shape
overflow_add-shape c =
    omega (arith, c.list_from-list.ensures.numbers, stated-list c.requires (inside (goal.at.overflow_add-shape c).In-loop-i), stated-count c.requires)

pub overflow_mul-shape : goal.overflow_mul-shape
overflow_mul-shape c =
    let h = c.list_from-list.ensures in
    rw (h.items, h.bits) (omega (arith, stated-list c.requires (inside (goal.at.overflow_mul-shape c).In-loop-i), c.requires.bits))

pub overflow_add-shape-in-loop-i : goal.overflow_add-shape-in-loop-i
overflow_add-shape-in-loop-i c =
    let h = c.list_from-list.ensures in
    rw (h.items, h.bits) (omega (arith, stated-list c.requires (inside (goal.at.overflow_add-shape-in-loop-i c).In-loop-i), c.requires.bits))

pub loop-i-preserved : goal.loop-i-preserved
loop-i-preserved c =
    let k = c.args.kind in
    let vs = c.args.values.now in
    let i = c.loop-i.i in
    let h = c.list_from-list.ensures in
    record { count = omega (arith, h.numbers, length-list k vs i); bits = rw (h.items, h.bits) (omega (arith, total-list k vs i)) }

pub returns : goal.returns
unfolding rules_for
returns c =
    let all : c.loop-i.i ≡ length (lists c.args.kind) = omega (arith, c.lists_of-i-end.ensures) in
    rw all at c.loop-i.invariant
