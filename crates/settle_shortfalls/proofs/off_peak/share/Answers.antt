-- `settle_shortfalls::off_peak::share` meets its contract. The loop's invariant: the entries before i have their shares. Assumes nothing.
use native.Mathlib.Omega.{arith}
use lib.Dec.{lit≤}
use Rattle.owed_laws.specs.Limits.{limits}
use Rattle.settle_shortfalls.specs.Sums.{told, untold}
use Rattle.settle_shortfalls.specs.OffPeak.{sharing-none, sharing-more, sharing-all, u-asks}
use Rattle.settle_shortfalls.proofs.off_peak.share.Goals as goal
use Rattle.settle_shortfalls.proofs.off_peak.share.Goals.{in-Some, in_default}

pub share-requires : goal.share-requires
share-requires c =
    let l = c.loop-i in
    let L = limits c.args.year.now.valid.sound in
    let x = told c.in-Some.ensures in record { within = rw (← x.1) (lit≤ tt, L.seller l.i); asks = rw (← x.1) (u-asks l.invariant L (omega arith) x.0) }

pub loop-i-preserved : goal.loop-i-preserved
loop-i-preserved c =
    let l = c.loop-i in
    elim c.match-entry_at.branch [
      | in-Some w ↦
          let x = told w.in-Some.ensures in
          rw w.work-is (sharing-more l.invariant (limits c.args.year.now.valid.sound) (omega arith) x.0 (rw (← x.1) at w.share.ensures) w.put.ensures)
      | in_default w ↦ rw w.work-is (sharing-none l.invariant (omega arith) (untold _ w.in_default.ensures))
    ]

pub returns-clause-divisions : goal.returns-clause-divisions
returns-clause-divisions c = (sharing-all c.loop-i.invariant (omega (arith, c.loop-i.invariant.upto))).1
