-- `settle_shortfalls::shares::share` meets its contract. The loop's invariant: the entries before i have their shares. Assumes nothing.
use native.Mathlib.Omega.{arith}
use lib.Dec.{lit≤}
use Rattle.owed_laws.specs.Limits.{limits}
use Rattle.settle_shortfalls.specs.Sums.{told_ok, told_err}
use Rattle.settle_shortfalls.specs.Sharing.{sharing-first, sharing-none, sharing-more, sharing-divided, u-asks, e-asks}
use Rattle.settle_shortfalls.proofs.shares.share.Goals as goal
use Rattle.settle_shortfalls.proofs.shares.share.Goals.{in-Ok, in_default}

pub share-requires : goal.share-requires
share-requires c =
    let l = c.loop-i in
    let L = limits c.args.year.now.valid.sound in
    let x = told_ok c.in-Ok.ensures in record { within = rw (← x.1) (lit≤ tt, L.seller l.i); asks = rw (← x.1) (u-asks l.invariant L (omega arith) x.0) }

pub share-requires-in-Ok : goal.share-requires-in-Ok
share-requires-in-Ok c =
    let l = c.loop-i in
    let L = limits c.args.year.now.valid.sound in
    let x = told_ok c.in-Ok.ensures in
    let g = rw (← x.1) at c.share.ensures in record { within = rw (← x.1) (lit≤ tt, L.seller l.i); asks = rw (← x.1) (e-asks l.invariant L (omega arith) x.0 g) }

pub loop-i-preserved : goal.loop-i-preserved
loop-i-preserved c =
    let l = c.loop-i in
    elim c.match-entry_at.branch [
      | in-Ok w ↦
          let x = told_ok w.in-Ok.ensures in
          rw w.work-is (sharing-more l.invariant (limits c.args.year.now.valid.sound) (omega arith) x.0 (rw (← x.1) at w.share.ensures) (rw (← x.1) at w.share-in-Ok.ensures) w.put.ensures w.put-in-Ok.ensures w.put-in-Ok-2.ensures (rw (← x.1) at w.put-in-Ok-3.ensures))
      | in_default w ↦ rw w.work-is (sharing-none l.invariant (omega arith) (told_err _ w.in_default.ensures))
    ]

pub loop-i-init : goal.loop-i-init
loop-i-init c = sharing-first c.requires.columns c.requires.ready

pub returns-clause-divisions : goal.returns-clause-divisions
returns-clause-divisions c = sharing-divided c.loop-i.invariant (omega (arith, c.loop-i.invariant.upto))
