-- The kind goes in front of the row, and the fields of the head's part of the table behind it.
use mathlib.Core.Bool.{true}
use mathlib.Core.List.{List}
use mathlib.Core.Path.{◌≡◌, ap, subst, ◌∙◌}
use Prim.Native.Nat.{ℕ, ◌+◌, ◌-◌}
use lib.ListN.{length, take, drop, length-replicate, length-set}
use Rattle.record_layouts.specs.Layout.{head, widths, most_numbers}
use Rattle.record_layouts.specs.Questions.{is_kind}
use Rattle.record_layouts.specs.QuestionLaws.{kind-in, kind-byte, head-kind}
use Rattle.record_layouts.specs.Parts.{rules, Placed}
use Rattle.record_layouts.specs.declared.Part.{Part}
use Rattle.record_layouts.specs.PartLaws.{table-long, rules-few}
use Rattle.record_unpack.specs.Reading.{head-split, head-rest, head-row, behind-is}
use native.Mathlib.Omega.{arith}
use Rattle.record_unpack.proofs.read_head.Goals as goal

-- the part of the table behind the kind
behind-at : {ws : List ℕ} {k : ℕ} {p : Part} → ws ≡ widths rules → Placed k 0 p → is_kind k ≡ true
    → take (p.end - (p.start + 1)) (drop (p.start + 1) ws) ≡ drop 1 (widths (head k))
behind-at {ws} {k} {p} e h first = rw e (behind-is p.start p.end _ _ (h.fields (λ r. r.width)) (omega (arith, h.long, (head-kind k first).0)))

pub read_fields-requires : goal.read_fields-requires
read_fields-requires c =
    let p = c.requires in
    let first = p.known in
    let rest = head-rest c.args.kind.value first in
    let some = kind-byte c.args.bytes.now (subst (λ (x : ℕ). is_kind x ≡ true) p.of_bytes first) in
    let bits = c.part_at-part.ensures.bits in
    let behind = behind-at c.widths_of_parts.ensures c.part_at-part.ensures first in
    record {
      in_word = rw behind (record { narrows = rest.0; begins = omega (arith, some, p.behind_kind); ends = omega (arith, rest.1, p.behind_kind); small = omega (arith, rest.1, p.behind_kind) });
      bits_value = rw behind (omega (arith, bits, (head-split c.args.kind.value first).1, p.behind_kind));
      ws_in_bounds = rw (behind, length-set) (omega (arith, rest.2, ap length p.zeros, length-replicate {A = ℕ} most_numbers 0));
    }

pub returns : goal.returns
returns c =
    let p = c.requires in
    let k = c.args.kind.value in
    let bytes = c.args.bytes.now in
    let behind = behind-at c.widths_of_parts.ensures c.part_at-part.ensures p.known in
    let t = rw behind at c.read_fields.ensures.at_value in
    record {
      ends = omega (arith, t, p.behind_kind, (head-split k p.known).1);
      filled = rw (behind, p.behind_kind) at c.read_fields.ensures.out_after ∙ head-row k p.known bytes p.of_bytes p.zeros;
    }

pub part_at-part-requires : goal.part_at-part-requires
part_at-part-requires c = record { kind_in_bounds = kind-in _ c.requires.known; i_in_bounds = omega arith }

pub overflow_sub-bits : goal.overflow_sub-bits
overflow_sub-bits c = omega (arith, c.part_at-part.ensures.bits, (head-split _ c.requires.known).1, c.requires.behind_kind)

pub overflow_add-ws : goal.overflow_add-ws
overflow_add-ws c = omega (arith, c.part_at-part.ensures.long, c.part_at-part.ensures.within, rules-few)

pub slice_bounds-ws-count : goal.slice_bounds-ws-count
slice_bounds-ws-count c = omega (arith, c.part_at-part.ensures.long, (head-kind _ c.requires.known).0)

pub slice_bounds-ws-start : goal.slice_bounds-ws-start
slice_bounds-ws-start c = omega (arith, c.part_at-part.ensures.long, (head-kind _ c.requires.known).0, c.part_at-part.ensures.within, table-long (λ r. r.width) c.widths_of_parts.ensures)
