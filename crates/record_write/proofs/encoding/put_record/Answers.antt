-- The writer writes the head and then the lists.
use Prim.Native.Nat.{ℕ, ◌-◌}
use mathlib.Core.Path.{◌≡◌, refl, sym, ap, subst, ◌∙◌}
use lib.ListN.{length, take, drop}
use lib.Seq.{length-take-le}
use Rattle.bits.specs.Table.{total}
use Rattle.bits_write.specs.Written.{joined, Wrote}
use Rattle.record_layouts.specs.Layout.{head, widths}
use Rattle.record_layouts.specs.LayoutLaws.{sound-heads, narrow-sound, length-widths}
use Rattle.record_layouts.specs.Questions.{rules_by, is_kind}
use Rattle.record_layouts.specs.QuestionLaws.{kind-in}
use Rattle.record_write.specs.Encoding.{put-stated, head-long, head-valid, head-fits, all-written}
use borrow.Author.Rules.{rules}
use native.Mathlib.Omega.{arith}
use Rattle.record_write.proofs.encoding.put_record.Goals as goal
use Rattle.record_write.proofs.encoding.put_record.Goals.{After-widths_of_parts, After-put_all-head, After-put_lists}

-- the widths of the head's fields, what is written of them, and of the lists too
head_at : (c : After-widths_of_parts) → take (c.part_at-part.result.end - c.part_at-part.result.start) (drop c.part_at-part.result.start c.widths_of_parts.result.now) ≡ widths (head c.args.kind)
head_at c = rw c.widths_of_parts.ensures (c.part_at-part.ensures.fields (λ r. r.width))

part-written : (c : After-put_all-head) → let hs = head c.args.kind in
    Wrote c.args.bytes.now c.put_all-head.new.bytes c.new.result c.put_all-head.result (total (widths hs)) (joined (widths hs) (take (length hs) c.args.numbers.now))
part-written c = rw (head_at (goal.at.After-put_all-head c).After-widths_of_parts, length-widths) at c.put_all-head.ensures

lists-written : (c : After-put_lists) → let ws = widths (rules_by c.args.numbers.now) in
    Wrote c.args.bytes.now c.put_lists.new.bytes c.new.result c.put_lists.result (total ws) (joined ws c.args.numbers.now)
lists-written c =
    let vs = c.args.numbers.now in
    c.put_lists.ensures c.args.bytes.now c.new.result
    (subst (λ (x : ℕ). Wrote c.args.bytes.now c.put_all-head.new.bytes c.new.result c.put_all-head.result (total (widths (head x))) (joined (widths (head x)) (take (length (head x)) vs))) c.requires.kind_value
    (part-written (goal.at.After-put_lists c).After-put_all-head))

pub part_at-part-requires : goal.part_at-part-requires
part_at-part-requires c = record { kind_in_bounds = kind-in _ (ap is_kind c.requires.kind_value ∙ c.requires.writable.kind); i_in_bounds = omega arith }

pub slice_bounds-put_all-end : goal.slice_bounds-put_all-end
slice_bounds-put_all-end c =
    rw (head_at (goal.at.slice_bounds-put_all-end c).After-widths_of_parts, length-widths) (sym (length-take-le (length (head c.args.kind)) c.args.numbers.now (put-stated c.requires.kind_value c.requires.writable).head))

pub put_all-head-requires : goal.put_all-head-requires
put_all-head-requires c =
    let k = c.args.kind in
    let e = c.new.ensures in
    let ws = head_at (goal.at.put_all-head-requires c).After-widths_of_parts in
    record {
      narrow = rw ws (narrow-sound (head k) (sound-heads k));
      values_len = rw (ws, length-widths) (head-long c.requires.kind_value c.requires.writable ∙ length-widths (head k));
      valid = rw (ws, length-widths) (head-valid c.requires.kind_value c.requires.writable);
      ws_bound = rw ws (omega (arith, e, head-fits c.requires.kind_value c.requires.writable));
    }

pub returns : goal.returns
returns c =
    let e = c.new.ensures in
    let all = all-written c.requires.kind_value c.requires.writable e.0 e.1 e.2 (lists-written (goal.at.returns c).After-put_lists) c.finish.ensures (λ i. search rules) (λ i. (c.type_inv.bytes i).fits) refl in
    record { value = all.0; bytes_after = all.1 }
