-- `year_test_steps::merging::merge` meets its contract. The loop's invariant: the first i entries are there. Assumes nothing.
use Prim.Native.Nat.{ℕ}
use native.Mathlib.Omega.{arith}
use lib.ListN.{length-replicate}
use Rattle.ids.specs.Fill.{filled_none, filled_more, filled-all}
use Rattle.limits.specs.Limits.{registrations}
use Rattle.year_test_steps.proofs.merging.merge.Goals as goal

pub loop-i-init : goal.loop-i-init
loop-i-init c = filled_none (length-replicate {A = ℕ} registrations 0)

pub loop-i-preserved : goal.loop-i-preserved
loop-i-preserved c = filled_more c.loop-i.invariant (omega arith) c.merged_at.ensures

pub returns : goal.returns
returns c = filled-all c.loop-i.invariant (omega arith)
