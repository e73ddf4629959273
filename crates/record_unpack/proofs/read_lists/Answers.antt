-- With i lists taken, the row has the numbers before list i.
use Prim.Native.Nat.{◌<◌}
use mathlib.Core.Path.{◌≡◌, ap, ◌∙◌}
use lib.ListN.{length}
use Rattle.bits.specs.ItemLaws.{total-times}
use Rattle.record_layouts.specs.Layout.{lists, list_at, items_in, rules_to, widths}
use Rattle.record_layouts.specs.LayoutLaws.{item-small}
use Rattle.record_layouts.specs.Questions.{is_kind, head_numbers, numbers_of, row}
use Rattle.record_layouts.specs.QuestionLaws.{kind-in}
use Rattle.record_layouts.specs.ListLaws.{total-list}
use Rattle.record_unpack.specs.Reading.{row-start, row-stated, row-items, take-fits, take-room, row-place, take_row, row-all, all_are, whole-size}
use native.Mathlib.Omega.{arith}
use Rattle.record_unpack.proofs.read_lists.Goals as goal
use Rattle.record_unpack.proofs.read_lists.Goals.{In-loop-i, After-list_at-list, After-loop-i}

-- the loop is at a list, which stands behind the numbers taken
inside : (c : In-loop-i) → c.loop-i.i < length (lists c.args.kind)
inside c = omega (arith, c.lists_of-i-end.ensures, c.loop-i-test.true)

place : (c : After-list_at-list) → c.list_at-list.result.from ≡ length (rules_to c.args.kind (head_numbers c.args.bytes.now) c.loop-i.i)
place c = c.list_at-list.ensures.from ∙ row-place c.requires.known c.loop-i.i c.loop-i.invariant.filled

pub loop-i-init : goal.loop-i-init
unfolding rules_to
loop-i-init c = record { at = c.requires.behind_head; filled = row-start c.requires.known c.requires.head_read }

pub list_at-list-requires : goal.list_at-list-requires
list_at-list-requires c = record { stated = row-stated c.requires.known c.loop-i.i c.loop-i.invariant.filled; i_in_bounds = inside (goal.at.list_at-list-requires c).In-loop-i }

pub read_items-cursor-requires : goal.read_items-cursor-requires
read_items-cursor-requires c =
    let w = c.requires.known in
    let l = c.loop-i in
    let h = c.list_at-list.ensures in
    let at = goal.at.read_items-cursor-requires c in
    let few = c.requires.few in
    let whole = whole-size c.args.bytes.now c.requires.whole in
    let ws = c.widths_of_parts.ensures in
    record {
      fit = rw (ws, h.fields (λ r. r.width), h.items, row-items w l.i l.invariant.filled l.i) (take-fits w l.i l.invariant.filled few whole (inside at.In-loop-i) l.invariant.at);
      bits_value = rw (ws, h.fields (λ r. r.width)) h.bits;
      le_bits = omega (arith, h.bits, item-small c.args.kind l.i (inside at.In-loop-i));
      ws_in_bounds = rw (ws, h.fields (λ r. r.width), h.items, row-items w l.i l.invariant.filled l.i) (take-room w l.i l.invariant.filled few whole (inside at.In-loop-i) (place at.After-list_at-list));
    }

pub loop-i-preserved : goal.loop-i-preserved
loop-i-preserved c =
    let k = c.args.kind in
    let w = c.requires.known in
    let bytes = c.args.bytes.now in
    let l = c.loop-i in
    let at = goal.at.loop-i-preserved c in
    let same = row-items w l.i l.invariant.filled l.i in
    let ws = widths (list_at k l.i).fields in
    let taken = rw (c.widths_of_parts.ensures, c.list_at-list.ensures.fields (λ r. r.width), c.list_at-list.ensures.items ∙ same) at c.read_items-cursor.ensures in
    record {
      at = omega (arith, taken.at_value, l.invariant.at, total-list k (head_numbers bytes) l.i, total-times ws (items_in k (head_numbers bytes) l.i));
      filled = take_row w l.i l.invariant.filled c.requires.few (whole-size bytes c.requires.whole) (inside at.In-loop-i) (place at.After-list_at-list) l.invariant.at taken.out_after;
    }

-- all lists are taken
all : (c : After-loop-i) → c.loop-i.i ≡ length (lists c.args.kind)
all c = omega (arith, c.lists_of-i-end.ensures, c.loop-i.auto.i-end, c.loop-i-test.false)

whole_row : (c : After-loop-i) → c.loop-i.values ≡ row (numbers_of c.args.bytes.now)
whole_row c = row-all c.requires.known (rw (all c) at c.loop-i.invariant.filled)

pub returns : goal.returns
returns c =
    let l = c.loop-i in
    record { ends = rw (all c, all_are c.requires.known) at l.invariant.at; filled = whole_row c }

pub lists_of-i-end-requires : goal.lists_of-i-end-requires
lists_of-i-end-requires c = kind-in _ (ap is_kind c.requires.known.kind ∙ c.requires.known.first)
