-- The items passed are in the row, and the others are still to come.
use Prim.Native.Nat.{◌*◌, ◌≤◌}
use mathlib.Core.Path.{◌≡◌}
use lib.ListN.{length, take, drop}
use Rattle.ids.specs.Ids.{at}
use Rattle.record_layouts.specs.Layout.{list_at, items_in, place_of}
use Rattle.record_heads.specs.Record.{with_items, listing_to}
use Rattle.record_listing.specs.Spread.{Spreads}
use Rattle.record_listing.proofs.spread_list.Given as goal

abbrev pub invariant-loop-item : goal.invariant-loop-item
invariant-loop-item l =
    let vs = l.values in
    let kind = at vs 0 in
    let fields = length (list_at kind l.i).fields in
    let passed = length l.yielded in
    record {
      can : (goal.iterator-loop-item).can_next l.item-iterator;
      ends : (goal.iterator-loop-item).is_finite l.item-iterator;
      size : l.item-iterator.size ≡ fields;
      some : passed ≤ items_in kind vs l.i;
      rest : l.item-iterator.rest.now ≡ drop (passed * fields) (take (items_in kind vs l.i * fields) (drop (place_of kind vs l.i) vs));
      spreads : Spreads (with_items kind vs l.i (listing_to kind vs l.i) passed) l.row;
    }
