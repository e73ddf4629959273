-- The items passed are in the row, and the others are still to come.
use Prim.Native.Nat.{ℕ, ◌+◌, ◌-◌, ◌*◌, ◌≤◌, ◌<◌}
use mathlib.Core.Logic.{⊎_elim}
use mathlib.Core.List.{List, [], ◌∷◌, ◌++◌}
use mathlib.Core.Path.{◌≡◌, sym, ap, ◌∙◌}
use native.Mathlib.Nat.{zero-mul}
use native.Mathlib.Numerals.{add-one}
use native.Mathlib.Omega.{arith}
use borrow.Author.Tests.{eq-eqb, ne_eqb}
use lib.ListN.{length, length-append}
use Rattle.ids.specs.Ids.{at}
use Rattle.limits.specs.Limits.{registrations, sellers}
use Rattle.record_layouts.specs.Layout.{lists, list_at, items_in, place_of, item_in}
use Rattle.record_layouts.specs.ListLaws.{item-some, stated-list}
use Rattle.record_heads.specs.Record.{with_items, listing_to}
use Rattle.record_heads.specs.RecordLaws.{items_more, listing-more}
use Rattle.record_listing.specs.Items.{behind, all-passed, one-more, rest-is, field-at}
use Rattle.record_listing.specs.Listed.{Permitted, EntryLimits, DeficitLimits, stated, numbers-few, item-as}
use Rattle.record_listing.specs.Spread.{spread-entry, spread-second, spread-deficit}
use Rattle.record_listing.proofs.spread_list.Goals as goal
use Rattle.record_listing.proofs.spread_list.Goals.{Start, After-part_at-part, In-Some, then-part-eq0, else-part-eq0}

pub list_at-list-requires : goal.list_at-list-requires
list_at-list-requires c =
    record { stated = stated c.requires.permitted c.requires.values_len; i_in_bounds = c.requires.i_in_bounds }

-- the list's items are among the numbers
fits : (c : Start) → place_of (at c.args.values.now 0) c.args.values.now c.args.i + items_in (at c.args.values.now 0) c.args.values.now c.args.i * length (list_at (at c.args.values.now 0) c.args.i).fields ≤ length c.args.values.now
fits c =
    let s = stated c.requires.permitted c.requires.values_len in
    omega (arith, stated-list s c.requires.i_in_bounds, numbers-few c.requires.permitted, c.requires.values_len)

room : (c : After-part_at-part) → c.list_at-list.result.from + c.list_at-list.result.numbers ≤ length c.args.values.now
room c = omega (arith, fits (goal.at.After-part_at-part c).Start, c.list_at-list.ensures.from, c.list_at-list.ensures.numbers)

pub overflow_add-items : goal.overflow_add-items
overflow_add-items c = omega (arith, room (goal.at.overflow_add-items c).After-part_at-part, c.requires.values_len)

pub offset_bounds-values-list : goal.offset_bounds-values-list
offset_bounds-values-list c = omega (arith, room (goal.at.offset_bounds-values-list c).After-part_at-part, c.requires.values_len)

pub slice_bounds-items-end : goal.slice_bounds-items-end
slice_bounds-items-end c = omega (arith, room (goal.at.slice_bounds-items-end c).After-part_at-part)

pub loop-item-init : goal.loop-item-init
unfolding with_items
loop-item-init c =
    let x = list_at (at c.args.values.now 0) c.args.i in
    let part = rw (add-one c.args.i) at c.part_at-part.ensures in
    let list = c.list_at-list.ensures in
    let iterator = c.into_iter-item-iterator.ensures.into_iter_gives in
    let size : c.into_iter-item-iterator.result.size ≡ length x.fields = rw iterator (omega (arith, c.chunks_exact-item-items.ensures.size, part.long)) in
    let d : c.list_at-list.result.from + c.list_at-list.result.numbers - c.list_at-list.result.from ≡ c.list_at-list.result.numbers = omega arith in
    record {
      can = omega (arith, size, item-some (at c.args.values.now 0) c.args.i c.requires.i_in_bounds);
      ends = tt;
      size = size;
      some = omega arith;
      rest = rw (iterator, c.chunks_exact-item-items.ensures.rest, d, list.from, list.numbers, zero-mul);
      spreads = c.requires.spreads;
    }

-- item k of list i, with its reductions in fields r and t
record Turn (vs : List ℕ) (i k : ℕ) (item : List ℕ) (r t : ℕ) : Type 0 where
  permitted : Permitted vs
  list : i < length (lists (at vs 0))
  there : k < items_in (at vs 0) vs i
  long : length item ≡ length (list_at (at vs 0) i).fields
  field : (f : ℕ) → f < length (list_at (at vs 0) i).fields → at item f ≡ item_in (at vs 0) vs i k f
  first : r ≡ at (list_at (at vs 0) i).reductions 0
  second : t ≡ at (list_at (at vs 0) i).reductions 1

module _ {vs : List ℕ} {i k : ℕ} {item : List ℕ} {r t : ℕ} (x : Turn vs i k item r t) where
  id-at : item_in (at vs 0) vs i k 0 ≡ at item 0
  id-at = sym (x.field 0 (item-some (at vs 0) i x.list))

  -- it is an entry or a deficit
  deficit : r ≡ 0 → DeficitLimits (list_at (at vs 0) i).reductions (list_at (at vs 0) i).fields (item_in (at vs 0) vs i k)
  deficit z = ⊎_elim (λ e. absurd (omega (arith, e.some, x.first, z))) (λ d. d) (item-as x.permitted i k x.list x.there)

  entry : (r ≡ 0 → ⊥) → EntryLimits (list_at (at vs 0) i).reductions (list_at (at vs 0) i).fields (item_in (at vs 0) vs i k)
  entry n = ⊎_elim (λ e. e) (λ d. absurd (n (x.first ∙ rw d.none))) (item-as x.permitted i k x.list x.there)

  lacks : r ≡ 0 → (at item 0 < sellers) × (1 < length item)
  lacks z = (rw id-at at (deficit z).id, omega (arith, x.long, (deficit z).inside))

  reduces : (r ≡ 0 → ⊥) → (at item 0 < registrations) × (r < length item)
  reduces n = (rw id-at at (entry n).id, omega (arith, x.long, x.first, (entry n).inside))

  first-at : (n : r ≡ 0 → ⊥) → item_in (at vs 0) vs i k (at (list_at (at vs 0) i).reductions 0) ≡ at item r
  first-at n = sym (x.field _ (entry n).inside) ∙ ap (at item) (sym x.first)

  second-at : (n : r ≡ 0 → ⊥) → item_in (at vs 0) vs i k (at (list_at (at vs 0) i).reductions 1) ≡ at item t
  second-at n = sym (x.field _ (entry n).second) ∙ ap (at item) (sym x.second)

  -- one with a second reduction is an entry
  twice : (t ≡ 0 → ⊥) → (at item 0 < registrations) × (t < length item)
  twice n =
      ⊎_elim
      (λ e. (rw id-at at e.id, omega (arith, x.long, x.second, e.second)))
      (λ d. absurd (n (x.second ∙ rw d.none)))
      (item-as x.permitted i k x.list x.there)

-- the item that is cut off
cut-at : (c : In-Some) → let vs = c.args.values.now in
    (behind vs (place_of (at vs 0) vs c.args.i) (items_in (at vs 0) vs c.args.i) (length (list_at (at vs 0) c.args.i).fields) (length c.loop-item.yielded) ≡ c.in-Some.item.now ++ c.next.new.self.rest.now)
    × (length c.in-Some.item.now ≡ length (list_at (at vs 0) c.args.i).fields)
cut-at c =
    let steps = c.in-Some.ensures.steps in
    (sym c.loop-item.invariant.rest ∙ steps.1.0, steps.1.1 ∙ c.loop-item.invariant.size)

turn : (c : In-Some) → Turn c.args.values.now c.args.i (length c.loop-item.yielded) c.in-Some.item.now c.part_at-part.result.reduction c.part_at-part.result.second
turn c =
    let vs = c.args.values.now in
    let w = length (list_at (at vs 0) c.args.i).fields in
    let part = rw (add-one c.args.i) at c.part_at-part.ensures in
    let cut = cut-at c in
    let some = item-some (at vs 0) c.args.i c.requires.i_in_bounds in
    let all = fits (goal.at.In-Some c).Start in
    record {
      permitted = c.requires.permitted;
      list = c.requires.i_in_bounds;
      there = one-more vs _ _ w all _ _ _ some cut.0 cut.1;
      long = cut.1;
      field = field-at vs _ _ w all _ _ _ some cut.0 cut.1;
      first = part.reduction;
      second = part.second;
    }

-- the item is passed
passed : (c : In-Some) → length (c.loop-item.yielded ++ c.in-Some.item ∷ []) ≡ length c.loop-item.yielded + 1
passed c = length-append c.loop-item.yielded (c.in-Some.item ∷ [])

rest-at : (c : In-Some) → let vs = c.args.values.now in c.next.new.self.rest.now ≡ behind vs (place_of (at vs 0) vs c.args.i) (items_in (at vs 0) vs c.args.i) (length (list_at (at vs 0) c.args.i).fields) (length c.loop-item.yielded + 1)
rest-at c =
    let vs = c.args.values.now in
    let cut = cut-at c in
    rest-is vs _ _ _ (fits (goal.at.In-Some c).Start) _ _ _ (item-some (at vs 0) c.args.i c.requires.i_in_bounds) cut.0 cut.1

pub loop-item-preserved-then-part-ne0 : goal.loop-item-preserved-then-part-ne0
loop-item-preserved-then-part-ne0 c =
    let vs = c.args.values.now in
    let at-item = (goal.at.loop-item-preserved-then-part-ne0 c).In-Some in
    let x = turn at-item in
    let item = c.in-Some.item.now in
    let steps = c.in-Some.ensures.steps in
    let inv = c.loop-item.invariant in
    let old = with_items (at vs 0) vs c.args.i (listing_to (at vs 0) vs c.args.i) (length c.loop-item.yielded) in
    record {
      can = omega (arith, steps.0, inv.can);
      ends = tt;
      size = steps.0 ∙ inv.size;
      some = omega (arith, passed at-item, x.there);
      rest = rw (passed at-item) (rest-at at-item);
      spreads =
          rw (passed at-item, items_more (at vs 0) vs c.args.i (listing_to (at vs 0) vs c.args.i) (length c.loop-item.yielded))
          (elim c.if-part-eq0.branch [
            | then-part-eq0 w ↦ absurd (c.if-part-ne0.true (x.second ∙ rw (deficit x w.if-part-eq0.true).none))
            | else-part-eq0 w ↦
                let some = w.if-part-eq0.false in
                let id = (reduces x some).0 in
                let kept = spread-entry inv.spreads (at item 0) (at item _) id in
                rw (w.row-is, (entry x some).keeps _ old, ne_eqb (at (list_at (at vs 0) c.args.i).reductions 1) 0 (λ z. c.if-part-ne0.true (x.second ∙ z)), id-at x, first-at x some, second-at x some) (spread-second kept (at item 0) (at item _) id)
          ]);
    }

pub loop-item-preserved : goal.loop-item-preserved
loop-item-preserved c =
    let vs = c.args.values.now in
    let at-item = (goal.at.loop-item-preserved c).In-Some in
    let x = turn at-item in
    let item = c.in-Some.item.now in
    let steps = c.in-Some.ensures.steps in
    let inv = c.loop-item.invariant in
    let old = with_items (at vs 0) vs c.args.i (listing_to (at vs 0) vs c.args.i) (length c.loop-item.yielded) in
    record {
      can = omega (arith, steps.0, inv.can);
      ends = tt;
      size = steps.0 ∙ inv.size;
      some = omega (arith, passed at-item, x.there);
      rest = rw (passed at-item) (rest-at at-item);
      spreads =
          rw (passed at-item, items_more (at vs 0) vs c.args.i (listing_to (at vs 0) vs c.args.i) (length c.loop-item.yielded))
          (elim c.if-part-eq0.branch [
            | then-part-eq0 w ↦
                let none = w.if-part-eq0.true in
                let d = deficit x none in
                rw (w.row-is, d.keeps _ old, id-at x, ← x.field 1 d.inside) (spread-deficit inv.spreads (at item 0) (at item 1) (lacks x none).0)
            | else-part-eq0 w ↦
                let some = w.if-part-eq0.false in
                rw (w.row-is, (entry x some).keeps _ old, eq-eqb (at (list_at (at vs 0) c.args.i).reductions 1) 0 (sym x.second ∙ c.if-part-ne0.false), id-at x, first-at x some) (spread-entry inv.spreads (at item 0) (at item _) (reduces x some).0)
          ]);
    }

pub returns : goal.returns
returns c =
    let vs = c.args.values.now in
    let inv = c.loop-item.invariant in
    let none = c.in-None.ensures.steps.1.0 in
    let all = all-passed vs (place_of (at vs 0) vs c.args.i) _ _ (fits (goal.at.returns c).Start) (length c.loop-item.yielded) inv.some (rw (← inv.rest, ← inv.size) none) in
    rw (listing-more (at vs 0) vs c.args.i) (rw all at inv.spreads)

pub overflow_add-row : goal.overflow_add-row
overflow_add-row c = omega (arith, lacks (turn (goal.at.overflow_add-row c).In-Some) c.if-part-eq0.true)

pub offset_bounds-row-id : goal.offset_bounds-row-id
offset_bounds-row-id c = omega (arith, lacks (turn (goal.at.offset_bounds-row-id c).In-Some) c.if-part-eq0.true)

pub bounds-row-id : goal.bounds-row-id
bounds-row-id c = omega (arith, lacks (turn (goal.at.bounds-row-id c).In-Some) c.if-part-eq0.true)

pub offset_bounds-row-id-else-part-eq0 : goal.offset_bounds-row-id-else-part-eq0
offset_bounds-row-id-else-part-eq0 c = omega (arith, reduces (turn (goal.at.offset_bounds-row-id-else-part-eq0 c).In-Some) c.if-part-eq0.false)

pub bounds-row-id-else-part-eq0 : goal.bounds-row-id-else-part-eq0
bounds-row-id-else-part-eq0 c = omega (arith, reduces (turn (goal.at.bounds-row-id-else-part-eq0 c).In-Some) c.if-part-eq0.false)

pub overflow_add-row-else-part-eq0 : goal.overflow_add-row-else-part-eq0
overflow_add-row-else-part-eq0 c = omega (arith, reduces (turn (goal.at.overflow_add-row-else-part-eq0 c).In-Some) c.if-part-eq0.false)

pub offset_bounds-row-id-else-part-eq0-2 : goal.offset_bounds-row-id-else-part-eq0-2
offset_bounds-row-id-else-part-eq0-2 c = omega (arith, reduces (turn (goal.at.offset_bounds-row-id-else-part-eq0-2 c).In-Some) c.if-part-eq0.false)

pub bounds-row-id-else-part-eq0-2 : goal.bounds-row-id-else-part-eq0-2
bounds-row-id-else-part-eq0-2 c = omega (arith, reduces (turn (goal.at.bounds-row-id-else-part-eq0-2 c).In-Some) c.if-part-eq0.false)

pub overflow_add-row-then-part-ne0 : goal.overflow_add-row-then-part-ne0
overflow_add-row-then-part-ne0 c = omega (arith, twice (turn (goal.at.overflow_add-row-then-part-ne0 c).In-Some) c.if-part-ne0.true)

pub offset_bounds-row-id-then-part-ne0 : goal.offset_bounds-row-id-then-part-ne0
offset_bounds-row-id-then-part-ne0 c = omega (arith, twice (turn (goal.at.offset_bounds-row-id-then-part-ne0 c).In-Some) c.if-part-ne0.true)

pub bounds-row-id-then-part-ne0 : goal.bounds-row-id-then-part-ne0
bounds-row-id-then-part-ne0 c = omega (arith, twice (turn (goal.at.bounds-row-id-then-part-ne0 c).In-Some) c.if-part-ne0.true)
