-- The head is tested first, and says the shape of the whole.
use mathlib.Core.Bool.{true, false, ◌&&◌, true≢false, and-false}
use mathlib.Core.List.{List}
use mathlib.Core.Path.{◌≡◌, refl, sym, ap, ◌∙◌}
use Prim.Native.Nat.{ℕ, ◌≤◌}
use borrow.Author.Tests.{ne_eqb}
use Rattle.std.specs.Prelude.{eqb}
use lib.ListN.{length, get_or-eq_default}
use Rattle.ids.specs.Ids.{at}
use Rattle.bits.specs.Table.{total}
use Rattle.bits.specs.Pack.{bytes_for}
use Rattle.record_layouts.specs.Layout.{Rule, head, rules_for, widths, size_of}
use Rattle.record_layouts.specs.Questions.{rules_by, is_kind, permitted, ids_rise}
use Rattle.record_layouts.specs.QuestionLaws.{kind-in}
use Rattle.record_layouts.specs.Parts.{Stated}
use Rattle.record_numbers.specs.Parsing.{Writable}
use Rattle.record_write.specs.Encoding.{stops-1, stops-3, stops-5, stops-16, stops-none, denies, grants, short-stops, head-stops, passes, by_kind, stated-by}
use native.Mathlib.Omega.{arith}
use Rattle.record_write.proofs.write.Goals as goal
use Rattle.record_write.proofs.write.Goals.{then-numbers-head_of-via-then-numbers-head_of, then-numbers-head_of-via-else-numbers-head_of+then-not-head_permitted, then-numbers-shape-via-then-numbers-shape, then-numbers-shape-via-else-numbers-shape+then-not-lists_permitted, After-size_of, Else-bytes-size_of, Else-not-head_permitted, Else-not-is_kind, Else-not-lists_permitted, Else-not-lists_rise, Else-numbers-head_of, Else-numbers-shape}

-- what is known of the numbers as the tests go by
kind_at : (c : Else-not-is_kind) → is_kind (at c.args.numbers.now 0) ≡ true
kind_at c = sym c.is_kind.ensures ∙ c.if-not-is_kind.false

-- the rules of the record, by its kind
by : (vs : List ℕ) → rules_for (at vs 0) vs ≡ rules_by vs
by vs = by_kind vs refl

stated-at : (c : Else-not-head_permitted) → Stated (at c.args.numbers.now 0) c.args.numbers.now
stated-at c =
    stated-by _ refl (sym c.is_kind.ensures ∙ c.if-not-is_kind.false) (rw (← c.head_of.ensures) c.if-numbers-head_of.false) (sym c.head_permitted.ensures ∙ c.if-not-head_permitted.false)

long-at : (c : Else-numbers-head_of) → length (head (at c.args.numbers.now 0)) ≤ length c.args.numbers.now
long-at c = rw (← c.head_of.ensures) c.if-numbers-head_of.false

count_at : (c : Else-numbers-shape) → length c.args.numbers.now ≡ length (rules_by c.args.numbers.now)
count_at c = omega (arith, c.if-numbers-shape.false, c.shape_of-shape.ensures.count, ap length (by c.args.numbers.now))

all-at : (c : Else-numbers-shape) → length (rules_for (at c.args.numbers.now 0) c.args.numbers.now) ≤ length c.args.numbers.now
all-at c = omega (arith, c.if-numbers-shape.false, c.shape_of-shape.ensures.count)

permits-at : (c : Else-not-lists_permitted) → permitted (rules_by c.args.numbers.now) c.args.numbers.now ≡ true
permits-at c =
    let vs = c.args.numbers.now in
    ap (λ (rs : List Rule). permitted rs vs) (sym (by vs)) ∙ sym c.lists_permitted.ensures ∙ c.if-not-lists_permitted.false

-- as many numbers as the record has, each permitted
counted-at : (c : Else-not-lists_permitted) → let vs = c.args.numbers.now in (eqb (length vs) (length (rules_by vs)) && permitted (rules_by vs) vs) ≡ true
counted-at c = passes _ (count_at (goal.at.Else-not-lists_permitted c).Else-numbers-shape) (permits-at c)

rise-at : (c : Else-not-lists_rise) → ids_rise c.args.numbers.now ≡ true
rise-at c = sym c.lists_rise.ensures ∙ c.if-not-lists_rise.false

size-at : (c : After-size_of) → c.size_of.result ≡ size_of (rules_by c.args.numbers.now)
size-at c =
    c.size_of.ensures ∙ ap bytes_for (c.shape_of-shape.ensures.bits ∙ ap (λ (rs : List Rule). total (widths rs)) (by c.args.numbers.now))

writable-at : (c : Else-bytes-size_of) → Writable c.args.numbers.now (length c.args.bytes.now)
writable-at c =
    let at = goal.at.Else-bytes-size_of c in
    record {
      kind = kind_at at.Else-not-is_kind;
      counted = count_at at.Else-numbers-shape;
      permits = permits-at at.Else-not-lists_permitted;
      rise = rise-at at.Else-not-lists_rise;
      fits = rw (← size-at at.After-size_of) c.if-bytes-size_of.false;
    }

pub returns-in_default : goal.returns-in_default
unfolding is_kind
returns-in_default c =
    let none : at c.args.numbers.now 0 ≡ 0 = get_or-eq_default c.args.numbers.now 0 {n = 0} (omega (arith, c.in_default.len_below)) in
    denies 1 refl refl refl (λ q. omega arith) (stops-1 _ _ (ap is_kind none))

pub returns-then-not-is_kind : goal.returns-then-not-is_kind
returns-then-not-is_kind c = denies 1 refl refl refl (λ q. omega arith) (stops-1 _ _ (sym c.is_kind.ensures ∙ c.if-not-is_kind.true))

pub head_of-requires : goal.head_of-requires
head_of-requires c = kind-in _ (kind_at c)

pub head_permitted-requires : goal.head_permitted-requires
head_permitted-requires c = record { kind_in_bounds = kind-in _ (kind_at (goal.at.head_permitted-requires c).Else-not-is_kind); kind_in_bounds_2 = long-at c }

pub returns-then-numbers-head_of : goal.returns-then-numbers-head_of
returns-then-numbers-head_of c =
    let vs = c.args.numbers.now in
    let fails : (eqb (length vs) (length (rules_by vs)) && permitted (rules_by vs) vs) ≡ false =
    elim c.then-numbers-head_of.branch [
      | then-numbers-head_of-via-then-numbers-head_of w ↦ short-stops vs (rw c.head_of.ensures at w.if-numbers-head_of.true)
      | then-numbers-head_of-via-else-numbers-head_of+then-not-head_permitted w ↦ head-stops vs (sym w.head_permitted.ensures ∙ w.if-not-head_permitted.true)
    ] in
    denies 3 refl refl refl (λ q. omega arith) (stops-3 _ _ (kind_at (goal.at.returns-then-numbers-head_of c).Else-not-is_kind) fails)

pub shape_of-shape-requires : goal.shape_of-shape-requires
shape_of-shape-requires c = stated-at c

pub lists_permitted-requires : goal.lists_permitted-requires
lists_permitted-requires c =
    record {
      stated = stated-at (goal.at.lists_permitted-requires c).Else-not-head_permitted;
      values_in_bounds = all-at c;
      values_value = sym c.head_permitted.ensures ∙ c.if-not-head_permitted.false;
      valid = λ e. absurd (true≢false (sym e));
    }

pub returns-then-numbers-shape : goal.returns-then-numbers-shape
returns-then-numbers-shape c =
    let vs = c.args.numbers.now in
    let fails : (eqb (length vs) (length (rules_by vs)) && permitted (rules_by vs) vs) ≡ false =
    elim c.then-numbers-shape.branch [
      | then-numbers-shape-via-then-numbers-shape w ↦ rw (ne_eqb (length vs) (length (rules_by vs)) (λ q. omega (arith, w.if-numbers-shape.true, c.shape_of-shape.ensures.count, ap length (by vs))))
      | then-numbers-shape-via-else-numbers-shape+then-not-lists_permitted w ↦ rw (ap (λ (rs : List Rule). permitted rs vs) (sym (by vs)) ∙ sym w.lists_permitted.ensures ∙ w.if-not-lists_permitted.true, and-false)
    ] in
    denies 3 refl refl refl (λ q. omega arith) (stops-3 _ _ (kind_at (goal.at.returns-then-numbers-shape c).Else-not-is_kind) fails)

pub lists_rise-requires : goal.lists_rise-requires
lists_rise-requires c = record { values_value = refl; stated = stated-at (goal.at.lists_rise-requires c).Else-not-head_permitted; values_in_bounds = all-at (goal.at.lists_rise-requires c).Else-numbers-shape }

pub returns-then-not-lists_rise : goal.returns-then-not-lists_rise
returns-then-not-lists_rise c =
    let at = goal.at.returns-then-not-lists_rise c in
    denies 5 refl refl refl (λ q. omega arith) (stops-5 _ _ (kind_at at.Else-not-is_kind) (counted-at at.Else-not-lists_permitted) (sym c.lists_rise.ensures ∙ c.if-not-lists_rise.true))

pub size_of-requires : goal.size_of-requires
size_of-requires c = omega (arith, c.shape_of-shape.ensures.bits, (stated-at (goal.at.size_of-requires c).Else-not-head_permitted).bits)

pub returns-then-bytes-size_of : goal.returns-then-bytes-size_of
returns-then-bytes-size_of c =
    let at = goal.at.returns-then-bytes-size_of c in
    denies 16 refl refl refl (λ q. omega arith)
    (stops-16 _ _ (kind_at at.Else-not-is_kind) (counted-at at.Else-not-lists_permitted) (rise-at at.Else-not-lists_rise) (rw (size-at at.After-size_of) at c.if-bytes-size_of.true))

pub put_record-requires : goal.put_record-requires
put_record-requires c = record { kind_value = refl; writable = writable-at (goal.at.put_record-requires c).Else-bytes-size_of }

pub returns : goal.returns
returns c =
    let w = writable-at (goal.at.returns c).Else-bytes-size_of in
    grants c.put_record.ensures.value c.put_record.ensures.bytes_after (stops-none _ _ w.kind (passes _ w.counted w.permits) w.rise w.fits)
