-- `settle_shortfalls::off_peak::nets` meets its contract. The loop's invariant: the sellers before s are netted. Assumes nothing.
use mathlib.Core.Path.{refl, ap}
use native.Mathlib.Omega.{arith}
use Rattle.owed_laws.specs.Limits.{limits}
use Rattle.settle_table.specs.Rows.{aside-more}
use Rattle.settle_shortfalls.specs.declared.Net.{Net}
use Rattle.settle_shortfalls.specs.Sums.{short-most, over-most}
use Rattle.settle_shortfalls.specs.OffPeak.{netted-more}
use Rattle.settle_shortfalls.proofs.off_peak.nets.Goals as goal

pub net_of-net-requires-clause-s_bound : goal.net_of-net-requires-clause-s_bound
net_of-net-requires-clause-s_bound c =
    let L = limits c.args.year.now.valid.sound in
    let sums = c.loop-s.invariant.0.weighed.sums in
    (short-most sums _ (omega arith) L, over-most sums _ (omega arith) L (L.off_peak c.args.ev))

pub loop-s-preserved : goal.loop-s-preserved
loop-s-preserved c =
    let v = c.loop-s.invariant in
    let net = c.net_of-net.ensures in
    let deficit = c.deficit_of-deficit.ensures in
    (netted-more v.0 c.loop-s-test.true refl refl (rw deficit at (ap (λ (x : Net). x.shortfall.0) net)) c.put.ensures, aside-more v.1 c.put.ensures (omega arith) (omega arith))
