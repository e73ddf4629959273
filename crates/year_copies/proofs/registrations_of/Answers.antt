-- `year_copies::registrations_of` meets its contract. The loop's invariant: the first i registrations are there. Assumes nothing.
use mathlib.Core.Path.{◌∙◌}
use native.Mathlib.Omega.{arith}
use lib.ListN.{length-replicate}
use Rattle.ids.specs.Fill.{filled_none, filled_more, filled-all}
use Rattle.limits.specs.Limits.{registrations}
use Rattle.year.specs.Year.{no_registration}
use Rattle.year_cells.specs.Layout.{cell_registrations}
use Rattle.year_cells.specs.Regions.{registration-in}
use Rattle.year_copies.proofs.registrations_of.Goals as goal

pub loop-i-init : goal.loop-i-init
loop-i-init c = filled_none (length-replicate registrations c.registration_at-first.result)

pub loop-i-preserved : goal.loop-i-preserved
loop-i-preserved c =
    let year = c.args.year.now in
    filled_more c.loop-i.invariant (omega arith) (c.registration_at.ensures ∙ registration-in year no_registration (omega arith))

pub returns : goal.returns
unfolding cell_registrations
returns c = filled-all c.loop-i.invariant (omega arith)
