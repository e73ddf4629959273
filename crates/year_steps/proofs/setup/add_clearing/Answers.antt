-- `year_steps::setup::add_clearing` meets its contract: one row. Assumes nothing.
use Rattle.std.proofs.Common.{◌≡◌}
use Prim.Native.Nat.{◌*◌, ◌≤◌}
use native.Mathlib.Nat.{mul-le-mul}
use native.Mathlib.Omega.{arith}
use Rattle.year.specs.Sound.{SoundClearings}
use Rattle.year.specs.Limits.{clearings-sound}
use Rattle.year.specs.StaysSound.{sound-clearing}
use Rattle.year.specs.Steps.{with_clearing}
use Rattle.year_cells.specs.Layout.{year_in}
use Rattle.year_cells.specs.Regions.{stepped}
use Rattle.year_steps.specs.SetupLaid.{clearing-laid}
use Rattle.year_steps.proofs.setup.add_clearing.Goals as goal
use Rattle.year_steps.proofs.setup.add_clearing.Goals.{After-clearings_at-old, After-lay, Start}

-- what the earlier ones come to
old : (c : After-clearings_at-old) → SoundClearings c.clearings_at-old.result
old c = rw c.clearings_at-old.ensures (clearings-sound c.args.year.now.valid.sound c.args.id)

-- what one comes to, at most
most : (s : Start) → s.args.price * s.args.kw ≤ 10000000000
most s = mul-le-mul s.requires.price_le_rate_limit s.requires.kw_le_nominated_limit

pub overflow_mul-row : goal.overflow_mul-row
overflow_mul-row c = record { fits = omega (arith, most (goal.at.overflow_mul-row c).Start) }

pub overflow_add-row-2 : goal.overflow_add-row-2
overflow_add-row-2 c = record { fits = omega (arith, most (goal.at.overflow_add-row-2 c).Start, old c) }

laid : (c : After-lay) → year_in c.lay.new.cells ≡ with_clearing (year_in c.args.year.now.cells) c.args.id c.args.price c.args.kw
laid c = clearing-laid c.args.id c.args.price c.args.kw c.requires.id_lt_registrations (rw c.clearings_at-old.ensures at c.lay.ensures)

pub returns : goal.returns
returns c = laid (goal.at.returns c).After-lay

pub invariant_of-year : goal.invariant_of-year
invariant_of-year c =
    let valid = c.args.year.now.valid in
    record { valid = (stepped valid c.lay.ensures.long (laid (goal.at.invariant_of-year c).After-lay) (sound-clearing valid.sound c.args.id c.requires.id_bound (clearings-sound valid.sound c.args.id) c.requires.price_le_rate_limit c.requires.le_kw c.requires.kw_le_nominated_limit)).1 }

pub overflow_add-row : goal.overflow_add-row
overflow_add-row c = record { fits = omega (arith, old c) }

pub overflow_add-row-3 : goal.overflow_add-row-3
overflow_add-row-3 c = record { fits = omega (arith, old c) }
