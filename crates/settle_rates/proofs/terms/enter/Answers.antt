-- `settle_rates::terms::enter` meets its contract: what the registration adds to its area, and seven stores, each its own.
use Prim.Native.Nat.{◌≤◌}
use native.Mathlib.Omega.{arith}
use native.Mathlib.Nat.{mul-le-mul}
use Rattle.limits.specs.Limits.{unforced_limit, rate_limit}
use Rattle.year.specs.Year.{seller, area, zone, product, committed}
use Rattle.year.specs.Sound.{SoundRegistration}
use Rattle.year_cells.specs.Layout.{group_in}
use Rattle.owed_laws.specs.Limits.{limits}
use Rattle.owed_laws.specs.Bounds.{unforced-one}
use Rattle.settle_rates.specs.Entering.{begun_more}
use Rattle.settle_rates.proofs.terms.enter.Goals as goal
use Rattle.settle_rates.proofs.terms.enter.Goals.{Start}

sound : (s : Start) → SoundRegistration s.args.r
sound s = rw s.requires.1 (s.args.year.now.valid.sound.terms.registrations.at s.args.i s.requires.0)

-- by the own rate as by the field
pub overflow_mul-cap : goal.overflow_mul-cap
overflow_mul-cap c =
    let L = limits c.args.year.now.valid.sound in
    let all : c.unforced-all.result.0 ≤ unforced_limit = rw c.unforced-all.ensures (unforced-one L (sound (goal.at.overflow_mul-cap c).Start).committed) in
    let own : c.add_to_area-own.result ≤ rate_limit = rw c.add_to_area-own.ensures.own (L.own c.args.i) in
    record { fits = omega (arith, mul-le-mul all own, mul-le-mul all (sound (goal.at.overflow_mul-cap c).Start).rate) }

pub returns : goal.returns
unfolding seller area zone product committed group_in
returns c =
    let r = c.requires.1 in
    let l = c.add_to_area-own.ensures in
    let all = c.unforced-all.ensures in
    begun_more c.requires.2 c.requires.0 l.sums l.aside (rw r at c.put.ensures) (rw r at c.put-2.ensures) (rw r at c.put-3.ensures) (rw l.own at c.put-4.ensures) (rw (l.own, all, r) at c.put-5.ensures) (rw (c.group_of-group.ensures, r) at c.put-6.ensures) (rw r at c.put-7.ensures)
