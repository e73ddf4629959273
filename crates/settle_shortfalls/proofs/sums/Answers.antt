-- `settle_shortfalls::sums` meets its contract. The loop's invariant: the entries before i are added up. Assumes nothing.
use Prim.Native.Nat.{◌+◌}
use native.Mathlib.Omega.{arith}
use Rattle.settle_facts.specs.CellFacts.{facts}
use Rattle.owed_laws.specs.Limits.{limits}
use Rattle.settle_table.specs.Places.{over_row}
use Rattle.settle_shortfalls.specs.Weighing.{weighing-first, weighing-none, weighing-more, weighing-all}
use Rattle.settle_shortfalls.specs.Sums.{told_ok, told_err, short-room, over-room}
use Rattle.settle_shortfalls.proofs.sums.Goals as goal
use Rattle.settle_shortfalls.proofs.sums.Goals.{in-Ok, in_default}

pub add_at-requires : goal.add_at-requires
add_at-requires c =
    let l = c.loop-i in
    let L = limits c.args.year.now.valid.sound in
    let b = L.seller l.i in
    rw (← (told_ok c.in-Ok.ensures).1) (omega (arith, b, l.invariant.columns.long), omega (arith, L.committed l.i, short-room l.invariant.sums L l.invariant.upto _ b))

pub add_at-requires-in-Ok : goal.add_at-requires-in-Ok
add_at-requires-in-Ok c =
    let l = c.loop-i in
    let L = limits c.args.year.now.valid.sound in
    let b = L.seller l.i in
    let e = (told_ok c.in-Ok.ensures).1 in
    let d = rw (← e) at c.add_at.ensures in
    let kept = d.others (over_row + (facts c.args.year.now.cells).seller l.i) (λ z. omega (arith, b)) in
    rw (← e) (omega (arith, b, d.long, l.invariant.columns.long), omega (arith, L.reduction c.args.ev l.i, kept, over-room l.invariant.sums L l.invariant.upto _ b (L.reduction c.args.ev)))

pub loop-i-preserved : goal.loop-i-preserved
loop-i-preserved c =
    let l = c.loop-i in
    elim c.match-entry_at.branch [
      | in-Ok w ↦
          let x = told_ok w.in-Ok.ensures in
          rw w.work-is (weighing-more l.invariant (omega arith) x.0 ((limits c.args.year.now.valid.sound).seller l.i) (rw (← x.1) at w.add_at.ensures) (rw (← x.1) at w.add_at-in-Ok.ensures))
      | in_default w ↦ rw w.work-is (weighing-none l.invariant (omega arith) (told_err _ w.in_default.ensures))
    ]

pub loop-i-init : goal.loop-i-init
loop-i-init c = weighing-first c.args.ev c.requires.columns c.requires.row

pub returns-clause-weighed : goal.returns-clause-weighed
returns-clause-weighed c = weighing-all c.loop-i.invariant (omega (arith, c.loop-i.invariant.upto))
