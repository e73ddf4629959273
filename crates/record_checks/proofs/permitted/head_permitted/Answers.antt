-- The head's part of the tables has its limits.
use mathlib.Core.Path.{◌∙◌}
use native.Mathlib.Omega.{arith}
use Rattle.record_layouts.specs.Layout.{head}
use Rattle.record_layouts.specs.PartLaws.{rules-few}
use Rattle.record_layouts.specs.ListLaws.{within-is}
use Rattle.record_checks.proofs.permitted.head_permitted.Goals as goal

pub offset_bounds-lows_of_parts-head : goal.offset_bounds-lows_of_parts-head
offset_bounds-lows_of_parts-head c = omega (arith, c.part_at-head.ensures.long, c.part_at-head.ensures.within, rules-few)

pub returns : goal.returns
returns c =
    let h = c.part_at-head.ensures in
    rw (c.lows_of_parts.ensures, c.highs_of_parts.ensures, h.fields (λ r. r.low), h.fields (λ r. r.high)) at c.are_within.ensures ∙ within-is (head c.args.kind) c.args.values.now
