-- `year_steps::add_close` meets its contract: the marks, then what is billed. Assumes nothing.
use Rattle.std.proofs.Common.{◌≡◌, ◌∙◌}
use Rattle.year.specs.StaysSound.{sound-close}
use Rattle.year.specs.Steps.{with_close}
use Rattle.year_cells.specs.Layout.{year_in}
use Rattle.year_cells.specs.Regions.{stepped}
use Rattle.year_steps.specs.StepsLaid.{close-laid}
use Rattle.year_steps.proofs.add_close.Goals as goal
use Rattle.year_steps.proofs.add_close.Goals.{After-lay-5}

laid : (c : After-lay-5) → year_in c.lay-5.new.cells ≡ with_close (year_in c.args.year.now.cells) c.args.billed
laid c = close-laid c.args.billed c.requires.sound_amounts c.closed-z.ensures c.lay.ensures c.lay-2.ensures c.lay-3.ensures c.lay-4.ensures c.lay-5.ensures

pub returns : goal.returns
returns c = laid (goal.at.returns c).After-lay-5

pub invariant_of-year : goal.invariant_of-year
invariant_of-year c =
    let valid = c.args.year.now.valid in
    let long = c.lay-5.ensures.long ∙ c.lay-4.ensures.long ∙ c.lay-3.ensures.long ∙ c.lay-2.ensures.long ∙ c.lay.ensures.long in
    record { valid = (stepped valid long (laid (goal.at.invariant_of-year c).After-lay-5) (sound-close valid.sound c.requires.year_bound c.requires.sound_amounts)).1 }
