-- `settle_shortfalls::nets` meets its contract. The loop's invariant: the sellers before s are netted. Assumes nothing.
use mathlib.Core.Path.{refl, ap}
use native.Mathlib.Omega.{arith}
use Rattle.owed_laws.specs.Limits.{limits}
use Rattle.settle_table.specs.Rows.{aside-more}
use Rattle.settle_shortfalls.specs.declared.Net.{Net}
use Rattle.settle_shortfalls.specs.Sums.{short-most, over-most}
use Rattle.settle_shortfalls.specs.Weighing.{netted-more}
use Rattle.settle_shortfalls.proofs.nets.Goals as goal

pub net_of-net-requires-clause-s_bound : goal.net_of-net-requires-clause-s_bound
net_of-net-requires-clause-s_bound c =
    let L = limits c.args.year.now.valid.sound in
    let sums = c.loop-s.invariant.0.weighed.sums in
    (short-most sums _ (omega arith) L, over-most sums _ (omega arith) L (L.reduction c.args.ev))

pub loop-s-preserved : goal.loop-s-preserved
loop-s-preserved c =
    let v = c.loop-s.invariant in
    let net = c.net_of-net.ensures in
    let deficit = c.deficit_of-deficit.ensures in
    let p = c.put.ensures in
    let q = c.put-in-loop-s.ensures in
    (netted-more v.0 c.loop-s-test.true refl refl (rw deficit at (ap (λ (x : Net). x.shortfall.0) net)) (rw net at c.less-excess.ensures) p q, aside-more (aside-more v.1 p (omega arith) (omega arith)) q (omega arith) (omega arith))
