-- With i lists written, the bits are those of the fields before list i.
use Prim.Native.Nat.{◌+◌, ◌-◌, ◌≤◌, ◌<◌}
use mathlib.Core.Path.{◌≡◌, refl, ap, ◌∙◌}
use lib.ListN.{length}
use Rattle.record_layouts.specs.Layout.{lists, rules_to}
use Rattle.record_layouts.specs.Questions.{is_kind}
use Rattle.record_layouts.specs.QuestionLaws.{kind-in}
use Rattle.record_write.specs.Encoding.{put-stated, part_room, part-long, part-narrow, part-valid, part-total, part-fits, part-written, lists-written}
use native.Mathlib.Omega.{arith}
use Rattle.record_write.proofs.encoding.put_lists.Goals as goal
use Rattle.record_write.proofs.encoding.put_lists.Goals.{In-loop-i, After-list_at-list}

pub lists_of-i-end-requires : goal.lists_of-i-end-requires
lists_of-i-end-requires c = kind-in _ (ap is_kind c.requires.kind_value ∙ c.requires.writable.kind)

-- the loop is at a list, whose numbers are there
inside : (c : In-loop-i) → c.loop-i.i < length (lists c.args.kind)
inside c = omega (arith, c.lists_of-i-end.ensures, c.loop-i-test.true)

room : (c : After-list_at-list) → c.list_at-list.result.from + c.list_at-list.result.numbers ≤ length c.args.numbers.now
room c =
    let h = c.list_at-list.ensures in
    part_room c.requires.kind_value c.requires.writable (inside (goal.at.After-list_at-list c).In-loop-i) h.from h.numbers

pub loop-i-init : goal.loop-i-init
unfolding rules_to
loop-i-init c = record { long = refl; ends = c.requires.written; wrote = λ old b f. f }

pub list_at-list-requires : goal.list_at-list-requires
list_at-list-requires c = record { stated = put-stated c.requires.kind_value c.requires.writable; i_in_bounds = inside (goal.at.list_at-list-requires c).In-loop-i }

pub overflow_add-items : goal.overflow_add-items
overflow_add-items c = omega (arith, room (goal.at.overflow_add-items c).After-list_at-list)

pub offset_bounds-numbers-list : goal.offset_bounds-numbers-list
offset_bounds-numbers-list c = omega (arith, room (goal.at.offset_bounds-numbers-list c).After-list_at-list)

pub slice_bounds-items-end : goal.slice_bounds-items-end
slice_bounds-items-end c = omega (arith, room (goal.at.slice_bounds-items-end c).After-list_at-list)

pub put_items-writer-requires : goal.put_items-writer-requires
put_items-writer-requires c =
    let e = c.requires.kind_value in
    let w = c.requires.writable in
    let l = c.loop-i in
    let h = c.list_at-list.ensures in
    let ws = c.widths_of_parts.ensures in
    let at = inside (goal.at.put_items-writer-requires c).In-loop-i in
    let d : c.list_at-list.result.from + c.list_at-list.result.numbers - c.list_at-list.result.from ≡ c.list_at-list.result.numbers = omega arith in
    record {
      narrow = rw (ws, h.fields (λ r. r.width)) (part-narrow e w at h.from h.numbers);
      values_len = rw (ws, h.fields (λ r. r.width), h.items, d) (part-long e w at h.from h.numbers);
      valid = rw (ws, h.fields (λ r. r.width), h.items, d) (part-valid e w at h.from h.numbers);
      ws_bound = rw (ws, h.fields (λ r. r.width), h.items) (omega (arith, l.invariant.long, l.invariant.ends, part-fits e w at h.from h.numbers));
    }

pub loop-i-preserved : goal.loop-i-preserved
loop-i-preserved c =
    let e = c.requires.kind_value in
    let w = c.requires.writable in
    let l = c.loop-i in
    let h = c.list_at-list.ensures in
    let at = inside (goal.at.loop-i-preserved c).In-loop-i in
    let d : c.list_at-list.result.from + c.list_at-list.result.numbers - c.list_at-list.result.from ≡ c.list_at-list.result.numbers = omega arith in
    let put = rw (c.widths_of_parts.ensures, h.fields (λ r. r.width), h.items, d) at c.put_items-writer.ensures in
    record {
      long = put.long ∙ l.invariant.long;
      ends = omega (arith, put.ends, l.invariant.ends, part-total e w at h.from h.numbers);
      wrote = λ old b f. part-written e w at h.from h.numbers (l.invariant.wrote old b f) put;
    }

pub returns : goal.returns
returns c =
    let all : c.loop-i.i ≡ length (lists c.args.kind) = omega (arith, c.lists_of-i-end.ensures, c.loop-i.auto.i-end, c.loop-i-test.false) in
    lists-written c.requires.kind_value c.requires.writable all c.loop-i.invariant.wrote
