-- In every list passed the ids rise; the first where they do not settles the question.
use mathlib.Core.Path.{◌≡◌, refl, sym, ◌∙◌}
use Prim.Native.Nat.{◌-◌, ◌<◌}
use native.Mathlib.Omega.{arith}
use lib.ListN.{length}
use Rattle.ids.specs.Ids.{all_to}
use Rattle.ids.specs.Tests.{all_more, all-fails}
use Rattle.record_layouts.specs.Layout.{lists, list_at, items_in, place_of}
use Rattle.record_layouts.specs.Questions.{rises}
use Rattle.record_layouts.specs.ListLaws.{ids-rise, item-some, stated-list}
use Rattle.record_checks.proofs.lists_rise.Goals as goal

pub loop-i-init : goal.loop-i-init
unfolding all_to
loop-i-init c = refl

pub rising-requires : goal.rising-requires
rising-requires c =
    let k = c.args.kind in
    let i = c.loop-i.i in
    let h = c.list_at-list.ensures in
    let inside : i < length (lists k) = omega (arith, c.lists_of-i-end.ensures) in
    let one : c.list_at-list.result.end - c.list_at-list.result.start ≡ length (list_at k i).fields = omega (arith, h.long) in
    record {
      le_fields = omega (arith, one, item-some k i inside);
      fields_in_bounds = rw (one, h.items, h.from) (omega (arith, stated-list c.requires.stated inside, c.requires.values_in_bounds));
    }

pub returns-then-not-rising : goal.returns-then-not-rising
returns-then-not-rising c =
    let k = c.args.kind in
    let vs = c.args.values.now in
    let i = c.loop-i.i in
    let h = c.list_at-list.ensures in
    let inside : i < length (lists k) = omega (arith, c.lists_of-i-end.ensures) in
    let one : c.list_at-list.result.end - c.list_at-list.result.start ≡ length (list_at k i).fields = omega (arith, h.long) in
    let no = rw (one, h.from, h.items) at (sym c.rising.ensures) ∙ c.if-not-rising.true in
    sym (ids-rise k vs c.requires.values_value ∙ all-fails (length (lists k)) (λ j. rises vs (length (list_at k j).fields) (place_of k vs j) (items_in k vs j)) i inside no)

pub loop-i-preserved : goal.loop-i-preserved
loop-i-preserved c =
    let k = c.args.kind in
    let vs = c.args.values.now in
    let h = c.list_at-list.ensures in
    let one : c.list_at-list.result.end - c.list_at-list.result.start ≡ length (list_at k c.loop-i.i).fields = omega (arith, h.long) in
    let yes = rw (one, h.from, h.items) at (sym c.rising.ensures) ∙ c.if-not-rising.false in
    all_more c.loop-i.i (λ j. rises vs (length (list_at k j).fields) (place_of k vs j) (items_in k vs j)) c.loop-i.invariant yes

pub returns : goal.returns
returns c =
    let n : c.loop-i.i ≡ length (lists c.args.kind) = omega (arith, c.lists_of-i-end.ensures) in
    sym (ids-rise c.args.kind c.args.values.now c.requires.values_value ∙ rw n at c.loop-i.invariant)
