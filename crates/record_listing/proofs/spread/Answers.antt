-- The lists passed are in the row.
use mathlib.Core.Path.{◌≡◌}
use native.Mathlib.Omega.{arith}
use lib.ListN.{length}
use Rattle.ids.specs.Ids.{at}
use Rattle.record_layouts.specs.Layout.{lists}
use Rattle.record_layouts.specs.QuestionLaws.{kind-in}
use Rattle.record_heads.specs.Record.{listing_to, listing_in}
use Rattle.record_listing.specs.Spread.{spread_none}
use Rattle.record_listing.proofs.spread.Goals as goal

pub lists_of-i-end-requires : goal.lists_of-i-end-requires
lists_of-i-end-requires c = kind-in _ c.requires.permitted.kind

pub loop-i-init : goal.loop-i-init
unfolding listing_to
loop-i-init c = rw c.requires.row_value spread_none

pub returns : goal.returns
unfolding listing_in
returns c =
    let all : c.loop-i.i ≡ length (lists (at c.args.values.now 0)) = omega (arith, c.lists_of-i-end.ensures) in
    rw all at c.loop-i.invariant
