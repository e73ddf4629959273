-- `year_steps::add_event` meets its contract: the head, the listing, then the marks. Assumes nothing.
use Rattle.std.proofs.Common.{◌≡◌, ◌∙◌, arith}
use Rattle.year.specs.StaysSound.{sound-event}
use Rattle.year_cells.specs.Layout.{year_in}
use Rattle.year_cells.specs.Regions.{stepped}
use Rattle.year_steps.specs.StepsLaid.{after_event, call-laid}
use Rattle.year_steps.proofs.add_event.Goals as goal
use Rattle.year_steps.proofs.add_event.Goals.{After-lay-3}

laid : (c : After-lay-3) → year_in c.lay-3.new.cells ≡ after_event c.args.year.now.cells c.args.e c.args.listing.now
laid c =
    let n = c.events_accepted-n in
    call-laid n.result c.args.e n.ensures (omega (arith, n.ensures, c.requires.year_bound)) c.told-listing c.lay.ensures c.lay-2.ensures c.lay-3.ensures

pub returns : goal.returns
returns c = laid (goal.at.returns c).After-lay-3

pub invariant_of-year : goal.invariant_of-year
invariant_of-year c =
    let valid = c.args.year.now.valid in
    let long = c.lay-3.ensures.long ∙ c.lay-2.ensures.long ∙ c.lay.ensures.long in
    record { valid = (stepped valid long (laid (goal.at.invariant_of-year c).After-lay-3) (sound-event valid.sound c.requires.year_bound c.requires.sound_event)).1 }
