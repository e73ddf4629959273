-- `settle_tests::sums::sum_up` meets its contract: entry by entry, three stores at the group and seller of each that stands.
use Prim.Native.Nat.{ℕ, ◌+◌}
use mathlib.Core.Path.{◌≡◌, sym, ◌∙◌}
use mathlib.Core.Bool.{Bool, false}
use native.Mathlib.Omega.{arith}
use native.Mathlib.Nat.{mul-le-mul}
use lib.ListN.{get_or}
use Rattle.std.proofs.lemmas.List.{length-replicate}
use Rattle.ids.specs.Sets.{get_or-replicate-same}
use Rattle.ids.specs.Tables.{table_at}
use Rattle.limits.specs.Limits.{registrations}
use Rattle.owed_laws.specs.Limits.{limits}
use Rattle.settle_tests.specs.Entries.{stands, standing-le, stands-off}
use Rattle.settle_tests.specs.Sums.{sums_width, reduction_sum, worth_sum, key_at, key_below, addend_of, addend-is, addend-none, summing-first, summing-none, summing-more, committed-room, reduction-room, worth-room}
use Rattle.settle_tests.proofs.sums.sum_up.Goals as goal
use Rattle.settle_tests.proofs.sums.sum_up.Goals.{In-loop-i, In-Some, in-Some, in_default}

-- whether the entry stands
stands-is : (c : In-loop-i) {b : Bool} → get_or c.standing-standing.result c.loop-i.i false ≡ b → stands c.args.year.now.cells c.loop-i.i ≡ b
stands-is c e = sym (table_at (stands c.args.year.now.cells) registrations c.standing-standing.ensures false c.loop-i-test.true) ∙ e

-- what it adds
adds : (c : In-Some) → c.in-Some.x ≡ addend_of c.args.year.now.cells c.loop-i.i
adds c = addend-is c.args.year.now.cells c.loop-i.i (sym c.in-Some.is ∙ c.addend_of.ensures)

pub loop-i-init : goal.loop-i-init
loop-i-init c =
    (omega arith, summing-first c.args.year.now.cells (length-replicate {A = ℕ} sums_width 0) (record { is = λ j l. get_or-replicate-same sums_width (0 + j) 0 }))

pub loop-i-preserved-then-not-stands : goal.loop-i-preserved-then-not-stands
loop-i-preserved-then-not-stands c =
    (omega arith, summing-none c.args.year.now.cells c.loop-i.invariant.1 (stands-is (goal.at.loop-i-preserved-then-not-stands c).In-loop-i c.if-not-stands.true))

pub add_at-requires : goal.add_at-requires
add_at-requires c =
    let l = c.loop-i in
    let H = c.args.year.now.valid in
    let b = key_below H l.i in
    rw (adds (goal.at.add_at-requires c).In-Some) (omega (arith, b, l.invariant.1.long), omega (arith, (limits H.sound).committed l.i, committed-room H l.invariant.0 l.invariant.1 _ b))

pub add_at-requires-in-Some : goal.add_at-requires-in-Some
add_at-requires-in-Some c =
    let l = c.loop-i in
    let H = c.args.year.now.valid in
    let b = key_below H l.i in
    let at = goal.at.add_at-requires-in-Some c in
    let e = adds at.In-Some in
    let d = rw e at c.add_at.ensures in
    let kept = d.others (reduction_sum + key_at c.args.year.now.cells l.i) (λ z. omega (arith, b)) in
    rw e (omega (arith, b, d.long, l.invariant.1.long), omega (arith, standing-le H l.i c.loop-i-test.true (stands-is at.In-loop-i c.if-not-stands.false), kept, reduction-room H l.invariant.0 l.invariant.1 _ b))

pub add_at-requires-in-Some-2 : goal.add_at-requires-in-Some-2
add_at-requires-in-Some-2 c =
    let l = c.loop-i in
    let H = c.args.year.now.valid in
    let L = limits H.sound in
    let b = key_below H l.i in
    let e = adds (goal.at.add_at-requires-in-Some-2 c).In-Some in
    let d₁ = rw e at c.add_at.ensures in
    let d₂ = rw e at c.add_at-in-Some.ensures in
    let q = worth_sum + key_at c.args.year.now.cells l.i in
    rw e (omega (arith, b, d₂.long, d₁.long, l.invariant.1.long), omega (arith, mul-le-mul (L.committed l.i) (L.rate l.i), d₂.others q (λ z. omega (arith, b)), d₁.others q (λ z. omega (arith, b)), worth-room H l.invariant.0 l.invariant.1 _ b))

pub loop-i-preserved : goal.loop-i-preserved
loop-i-preserved c =
    let h = c.loop-i.invariant.1 in
    let i = c.loop-i.i in
    let y = c.args.year.now.cells in
    let on = stands-is (goal.at.loop-i-preserved c).In-loop-i c.if-not-stands.false in
    elim c.match-addend_of.branch [
      | in-Some w ↦
          let e = addend-is y i (sym w.in-Some.is ∙ c.addend_of.ensures) in
          rw w.sums-is (omega arith, summing-more y h on (key_below c.args.year.now.valid i) (rw e at w.add_at.ensures) (rw e at w.add_at-in-Some.ensures) (rw e at w.add_at-in-Some-2.ensures))
      | in_default w ↦ rw w.sums-is (omega arith, summing-none y h (sym (stands-off y i (addend-none y i (sym w.in_default.is ∙ c.addend_of.ensures)))))
    ]
