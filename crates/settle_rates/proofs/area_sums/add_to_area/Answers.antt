-- `settle_rates::area_sums::add_to_area` meets its contract: two sums of its area grow.
use Prim.Native.Nat.{◌+◌, ◌≤◌}
use mathlib.Core.Path.{◌≡◌}
use native.Mathlib.Omega.{arith}
use native.Mathlib.Nat.{mul-le-mul}
use Rattle.limits.specs.Limits.{nominated_limit, rate_limit}
use Rattle.year.specs.Year.{area, committed}
use Rattle.year.specs.Sound.{SoundRegistration}
use Rattle.settle_facts.specs.CellFacts.{facts}
use Rattle.owed_laws.specs.Limits.{limits}
use Rattle.settle_table.specs.Places.{area_worth_row}
use Rattle.settle_rates.specs.AreaSums.{averaged_kw, worth-is, area-le, area-room, worth-room, sums-more}
use Rattle.settle_rates.proofs.area_sums.add_to_area.Goals as goal
use Rattle.settle_rates.proofs.area_sums.add_to_area.Goals.{After-averaged_kw-kw, After-own_rate-own, Start}

sound : (s : Start) → SoundRegistration s.args.r
sound s = rw s.requires.i_lt_registrations.1 (s.args.year.now.valid.sound.terms.registrations.at s.args.i s.requires.i_lt_registrations.0)

-- what is lent is the rule's
area-at : (c : After-averaged_kw-kw) → c.averaged_kw-kw.result.0 ≡ averaged_kw (facts c.args.year.now.cells) c.args.i
unfolding committed
area-at c =
    rw (c.own_rate-own.ensures, c.requires.i_lt_registrations.1) at c.averaged_kw-kw.ensures

area-most : (c : After-averaged_kw-kw) → c.averaged_kw-kw.result.0 ≤ nominated_limit
area-most c = rw (area-at c) (area-le (limits c.args.year.now.valid.sound) c.args.i)

own-most : (c : After-own_rate-own) → c.own_rate-own.result ≤ rate_limit
own-most c = rw c.own_rate-own.ensures ((limits c.args.year.now.valid.sound).own c.args.i)

-- each sum has room for what is lent, and for what that is worth
pub add_at-requires : goal.add_at-requires
add_at-requires c =
    let below = (sound (goal.at.add_at-requires c).Start).area in
    (omega (arith, below, c.told-work), omega (arith, area-room (limits c.args.year.now.valid.sound) (omega (arith, c.requires.i_lt_registrations.0)) c.requires.sums_before c.args.r.area below, area-most (goal.at.add_at-requires c).After-averaged_kw-kw, mul-le-mul (area-most (goal.at.add_at-requires c).After-averaged_kw-kw) (own-most (goal.at.add_at-requires c).After-own_rate-own)))

pub add_at-requires-2 : goal.add_at-requires-2
add_at-requires-2 c =
    let below = (sound (goal.at.add_at-requires-2 c).Start).area in
    let d = c.add_at.ensures in
    let kept = d.others (area_worth_row + c.args.r.area) (λ z. omega (arith, below)) in
    (omega (arith, below, d.long, c.told-work), omega (arith, kept, worth-room (limits c.args.year.now.valid.sound) (omega (arith, c.requires.i_lt_registrations.0)) c.requires.sums_before c.args.r.area below, area-most (goal.at.add_at-requires-2 c).After-averaged_kw-kw, mul-le-mul (area-most (goal.at.add_at-requires-2 c).After-averaged_kw-kw) (own-most (goal.at.add_at-requires-2 c).After-own_rate-own)))

pub overflow_mul-worth : goal.overflow_mul-worth
overflow_mul-worth c = record { fits = omega (arith, mul-le-mul (area-most (goal.at.overflow_mul-worth c).After-averaged_kw-kw) (own-most (goal.at.overflow_mul-worth c).After-own_rate-own)) }

pub returns-clause-sums : goal.returns-clause-sums
unfolding area
returns-clause-sums c =
    let F = facts c.args.year.now.cells in
    let r = c.requires.i_lt_registrations.1 in
    let kw = area-at (goal.at.returns-clause-sums c).After-averaged_kw-kw in
    sums-more F c.args.i ((limits c.args.year.now.valid.sound).area c.args.i) (rw (kw, r) at c.add_at.ensures) (rw (kw, c.own_rate-own.ensures, worth-is F c.args.i, r) at c.add_at-2.ensures) c.requires.sums_before
