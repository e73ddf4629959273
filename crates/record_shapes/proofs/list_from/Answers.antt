-- A list's count is among the numbers of the head.
use mathlib.Core.Path.{◌≡◌, sym, ap, ◌∙◌}
use Prim.Native.Nat.{◌-◌, ◌<◌}
use lib.ListN.{length}
use Rattle.ids.specs.Ids.{at}
use Rattle.record_layouts.specs.Layout.{head, list_at, items_in}
use Rattle.record_layouts.specs.LayoutLaws.{count-in, items-count}
use Rattle.record_layouts.specs.ListLaws.{stated-count, stated-list}
use native.Mathlib.Numerals.{add-one}
use native.Mathlib.Omega.{arith}
use Rattle.record_shapes.proofs.list_from.Goals as goal
use Rattle.record_shapes.proofs.list_from.Goals.{After-part_at-part}

-- the place of the count, what stands there, and the fields of an item
count_at : (c : After-part_at-part) → c.part_at-part.result.count < length (head c.args.kind)
count_at c =
    rw (rw (add-one c.args.i) at c.part_at-part.ensures).count (count-in c.args.kind c.args.i c.requires.i_in_bounds)

items_at : (c : After-part_at-part) → at c.args.values.now c.part_at-part.result.count ≡ items_in c.args.kind c.args.values.now c.args.i
items_at c =
    let h = rw (add-one c.args.i) at c.part_at-part.ensures in
    ap (at c.args.values.now) h.count ∙ sym (items-count c.args.kind c.args.values.now c.args.i c.requires.i_in_bounds)

one_at : (c : After-part_at-part) → c.part_at-part.result.end - c.part_at-part.result.start ≡ length (list_at c.args.kind c.args.i).fields
one_at c = let h = rw (add-one c.args.i) at c.part_at-part.ensures in omega (arith, h.long)

pub bounds-values-place : goal.bounds-values-place
bounds-values-place c = omega (arith, c.requires.stated.head, count_at (goal.at.bounds-values-place c).After-part_at-part)

pub overflow_mul-numbers : goal.overflow_mul-numbers
overflow_mul-numbers c =
    let k = c.args.kind in
    let h = c.part_at-part.ensures in
    rw (items_at (goal.at.overflow_mul-numbers c).After-part_at-part, one_at (goal.at.overflow_mul-numbers c).After-part_at-part) (omega (arith, stated-list c.requires.stated c.requires.i_in_bounds, stated-count c.requires.stated))

pub returns : goal.returns
returns c =
    let h = rw (add-one c.args.i) at c.part_at-part.ensures in
    record {
      fields = h.fields;
      long = h.long;
      within = h.within;
      bits = h.bits;
      from = c.requires.from_value;
      items = items_at (goal.at.returns c).After-part_at-part;
      numbers = rw (items_at (goal.at.returns c).After-part_at-part, one_at (goal.at.returns c).After-part_at-part);
    }
