-- The amounts of the first k columns stand behind the id.
use mathlib.Core.Path.{◌≡◌}
use native.Mathlib.Numerals.{add-one}
use native.Mathlib.Omega.{arith}
use Rattle.ids.specs.Ids.{tabulate}
use Rattle.statement.specs.Statement.{line_fields}
use Rattle.statement.specs.Lines.{amounts-bits}
use Rattle.statement.specs.Sizes.{difference_below}
use Rattle.statement.specs.WrittenFields.{no_fields, one_field, more-fields}
use Rattle.statement.proofs.issue.put_line.Goals as goal

pub loop-k-init : goal.loop-k-init
unfolding tabulate
loop-k-init c = (omega arith, no_fields)

pub put-r-requires-in-loop-k : goal.put-r-requires-in-loop-k
put-r-requires-in-loop-k c =
    let w = c.loop-k.invariant.1.wrote in
    let n = amounts-bits c.loop-k.k c.args.owed.now c.args.billed.now c.args.id in
    record { width_bound = omega arith; value_bound = rw c.difference.ensures (difference_below _ _); width_bound_2 = omega (arith, w.ends, w.long, c.put-r.ensures.ends, c.put-r.ensures.long) }

pub loop-k-preserved : goal.loop-k-preserved
unfolding tabulate
loop-k-preserved c =
    let l = c.loop-k in
    (omega arith, rw (add-one l.k) (more-fields l.invariant.1 (one_field (rw c.difference.ensures at c.put-r-in-loop-k.ensures))))

pub returns : goal.returns
unfolding line_fields
returns c =
    let all : c.loop-k.k ≡ c.args.n = omega arith in
    more-fields (one_field c.put-r.ensures) (rw all at c.loop-k.invariant.1)
