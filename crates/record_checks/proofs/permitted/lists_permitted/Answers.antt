-- Every list passed is permitted; the first that is not settles the question.
use mathlib.Core.Bool.{and-false}
use mathlib.Core.Path.{◌≡◌, sym, ◌∙◌}
use Prim.Native.Nat.{◌+◌, ◌<◌}
use native.Mathlib.Omega.{arith}
use lib.ListN.{length, length-map}
use Rattle.record_layouts.specs.Layout.{lists, list_at, rules_to, rules_for}
use Rattle.record_layouts.specs.ListLaws.{items-fit, stated-list, permitted-list, permitted-behind}
use Rattle.record_checks.proofs.permitted.lists_permitted.Goals as goal

pub loop-i-init : goal.loop-i-init
unfolding rules_to
loop-i-init c = c.requires.values_value

pub items_within-requires-clause-items_fit : goal.items_within-requires-clause-items_fit
items_within-requires-clause-items_fit c =
    let k = c.args.kind in
    let h = c.list_at-list.ensures in
    let inside : c.loop-i.i < length (lists k) = omega (arith, c.lists_of-i-end.ensures) in
    rw (c.widths_of_parts.ensures, h.fields (λ r. r.width), h.from, h.items) (λ e. items-fit k c.args.values.now c.loop-i.i inside c.requires.values_in_bounds (c.requires.valid e))

pub items_within-requires-clause-lows_in_bounds : goal.items_within-requires-clause-lows_in_bounds
items_within-requires-clause-lows_in_bounds c =
    let h = c.list_at-list.ensures in
    let inside : c.loop-i.i < length (lists c.args.kind) = omega (arith, c.lists_of-i-end.ensures) in
    rw (c.lows_of_parts.ensures, h.fields (λ r. r.low), h.from, h.items, length-map (list_at c.args.kind c.loop-i.i).fields (λ r. r.low)) (omega (arith, stated-list c.requires.stated inside, c.requires.values_in_bounds))

pub returns-then-not-items_within : goal.returns-then-not-items_within
returns-then-not-items_within c =
    let k = c.args.kind in
    let vs = c.args.values.now in
    let i = c.loop-i.i in
    let h = c.list_at-list.ensures in
    let inside : i < length (lists k) = omega (arith, c.lists_of-i-end.ensures) in
    let no = rw (c.lows_of_parts.ensures, c.highs_of_parts.ensures, h.fields (λ r. r.low), h.fields (λ r. r.high), h.from, h.items) at (sym c.items_within.ensures) ∙ c.if-not-items_within.true in
    sym (permitted-behind k vs (i + 1) (omega arith) (permitted-list k vs i ∙ rw (no, and-false)))

pub loop-i-preserved : goal.loop-i-preserved
loop-i-preserved c =
    let h = c.list_at-list.ensures in
    let yes = rw (c.lows_of_parts.ensures, c.highs_of_parts.ensures, h.fields (λ r. r.low), h.fields (λ r. r.high), h.from, h.items) at (sym c.items_within.ensures) ∙ c.if-not-items_within.false in
    permitted-list c.args.kind c.args.values.now c.loop-i.i ∙ rw (c.loop-i.invariant, yes)

pub returns : goal.returns
unfolding rules_for
returns c =
    let n : c.loop-i.i ≡ length (lists c.args.kind) = omega (arith, c.lists_of-i-end.ensures) in
    sym (rw n at c.loop-i.invariant)
